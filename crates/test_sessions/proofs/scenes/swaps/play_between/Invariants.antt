-- The opening of a swap is the one of its book and its ledger.
use Rattle.test_sessions.proofs.scenes.swaps.play_between.Given as goal

abbrev pub ghosts-swap_in-O-Ledger : goal.ghosts-swap_in-O-Ledger
ghosts-swap_in-O-Ledger g a = record { name = a.fresh.blank.name; parts = a.fresh.blank.parts }

abbrev pub ghosts-swap_in-O-Opening : goal.ghosts-swap_in-O-Opening
ghosts-swap_in-O-Opening g a = record { opened = a.fresh.book.list.opening; clients = a.fresh.blank.parts }
