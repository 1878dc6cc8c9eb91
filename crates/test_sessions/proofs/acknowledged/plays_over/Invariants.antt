-- The opening is the one of its book, its ledger, its journal and its watermark.
use Rattle.test_sessions.proofs.acknowledged.plays_over.Given as goal

abbrev pub ghosts-play-O-Ledger : goal.ghosts-play-O-Ledger
ghosts-play-O-Ledger g a = record { name = a.fresh.blank.name; parts = a.fresh.blank.parts }

abbrev pub ghosts-play-O-Opening : goal.ghosts-play-O-Opening
ghosts-play-O-Opening g a = record { opened = a.fresh.book.list.opening; clients = a.fresh.blank.parts }

abbrev pub ghosts-play-O-WatermarkId : goal.ghosts-play-O-WatermarkId
ghosts-play-O-WatermarkId g a = record { watermark = a.journal.watermark.cell.table.shared.table_id }

abbrev pub ghosts-play-O-JournalId : goal.ghosts-play-O-JournalId
ghosts-play-O-JournalId g a =
    record { front = a.journal.log.device.appended; base = a.manager.start.base; seed = a.journal.log.seed }

abbrev pub ghosts-play-O-DurableOpening : goal.ghosts-play-O-DurableOpening
ghosts-play-O-DurableOpening g a = record { table = a.journal.frames.table }
