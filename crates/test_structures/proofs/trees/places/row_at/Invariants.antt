use Rattle.test_structures.proofs.trees.places.row_at.Given as goal

abbrev pub ghosts-row_of : goal.ghosts-row_of
ghosts-row_of a = record { name = a.blank.name; parts = a.blank.parts }
