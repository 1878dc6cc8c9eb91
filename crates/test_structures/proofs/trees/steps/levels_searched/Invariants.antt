use Rattle.test_structures.proofs.trees.steps.levels_searched.Given as goal

abbrev pub ghosts-search_counted : goal.ghosts-search_counted
ghosts-search_counted a = record { name = a.blank.name; parts = a.blank.parts }
