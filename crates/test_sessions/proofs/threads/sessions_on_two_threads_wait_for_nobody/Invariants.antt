-- The opening is the one of its book and its ledger.
use Rattle.test_sessions.proofs.threads.sessions_on_two_threads_wait_for_nobody.Given as goal

abbrev pub ghosts-play-O-Ledger : goal.ghosts-play-O-Ledger
ghosts-play-O-Ledger g a = record { name = a.fresh.blank.name; parts = a.fresh.blank.parts }

abbrev pub ghosts-play-O-Opening : goal.ghosts-play-O-Opening
ghosts-play-O-Opening g a = record { opened = a.fresh.book.list.opening; clients = a.fresh.blank.parts }
