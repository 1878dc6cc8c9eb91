-- The opening is the one of its book and its ledger.
use Rattle.session_timings.proofs.main.Given as goal

abbrev pub ghosts-figures_of-O-Ledger : goal.ghosts-figures_of-O-Ledger
ghosts-figures_of-O-Ledger g a = record { name = a.fresh.blank.name; parts = a.fresh.blank.parts }

abbrev pub ghosts-figures_of-O-Opening : goal.ghosts-figures_of-O-Opening
ghosts-figures_of-O-Opening g a = record { opened = a.fresh.book.list.opening; clients = a.fresh.blank.parts }
