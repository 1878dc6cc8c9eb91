-- The opening is the one of its book and its ledger.
use Rattle.pdtcli.proofs.clients.run_clients.Given as goal

abbrev pub ghosts-run_shared-O-Ledger : goal.ghosts-run_shared-O-Ledger
ghosts-run_shared-O-Ledger g a = record { name = a.fresh.blank.name; parts = a.fresh.blank.parts }

abbrev pub ghosts-run_shared-O-Opening : goal.ghosts-run_shared-O-Opening
ghosts-run_shared-O-Opening g a = record { opened = a.fresh.book.list.opening; clients = a.fresh.blank.parts }
