-- The opening is the one of its book, its ledger, its journal and its watermark.
use Rattle.test_sessions.proofs.acknowledged.shared_syncs.plays.Given as goal

abbrev pub ghosts-all_insert-O-Ledger : goal.ghosts-all_insert-O-Ledger
ghosts-all_insert-O-Ledger g a = record { name = a.fresh.blank.name; parts = a.fresh.blank.parts }

abbrev pub ghosts-all_insert-O-Opening : goal.ghosts-all_insert-O-Opening
ghosts-all_insert-O-Opening g a = record { opened = a.fresh.book.list.opening; clients = a.fresh.blank.parts }

abbrev pub ghosts-all_insert-O-WatermarkId : goal.ghosts-all_insert-O-WatermarkId
ghosts-all_insert-O-WatermarkId g a = record { watermark = a.journal.watermark.cell.table.shared.table_id }

abbrev pub ghosts-all_insert-O-JournalId : goal.ghosts-all_insert-O-JournalId
ghosts-all_insert-O-JournalId g a =
    record { front = a.journal.log.device.appended; base = a.manager.start.base; seed = a.journal.log.seed }

abbrev pub ghosts-all_insert-O-DurableOpening : goal.ghosts-all_insert-O-DurableOpening
ghosts-all_insert-O-DurableOpening g a = record { table = a.journal.frames.table }
