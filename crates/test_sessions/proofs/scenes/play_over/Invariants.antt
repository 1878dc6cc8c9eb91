-- The opening of a scene is the one of its book and its ledger.
use Rattle.test_sessions.proofs.scenes.play_over.Given as goal

abbrev pub ghosts-play_in-O-Ledger : goal.ghosts-play_in-O-Ledger
ghosts-play_in-O-Ledger g a = record { name = a.fresh.blank.name; parts = a.fresh.blank.parts }

abbrev pub ghosts-play_in-O-Opening : goal.ghosts-play_in-O-Opening
ghosts-play_in-O-Opening g a = record { opened = a.fresh.book.list.opening; clients = a.fresh.blank.parts }
