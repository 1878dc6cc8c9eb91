-- The opening is the one of its book and its ledger.
use Rattle.test_sessions.proofs.scenes.openings.opened_over.Given as goal

abbrev pub ghosts-opened_in-O-Ledger : goal.ghosts-opened_in-O-Ledger
ghosts-opened_in-O-Ledger g a = record { name = a.fresh.blank.name; parts = a.fresh.blank.parts }

abbrev pub ghosts-opened_in-O-Opening : goal.ghosts-opened_in-O-Opening
ghosts-opened_in-O-Opening g a = record { opened = a.fresh.book.list.opening; clients = a.fresh.blank.parts }
