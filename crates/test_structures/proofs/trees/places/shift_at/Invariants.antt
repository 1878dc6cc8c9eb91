use Rattle.test_structures.proofs.trees.places.shift_at.Given as goal

abbrev pub ghosts-shift_of : goal.ghosts-shift_of
ghosts-shift_of a = record { name = a.blank.name; parts = a.blank.parts }
