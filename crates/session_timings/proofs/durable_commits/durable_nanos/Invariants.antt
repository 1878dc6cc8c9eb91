-- The opening is the one of its book, its ledger, its journal and its watermark.
use Rattle.session_timings.proofs.durable_commits.durable_nanos.Given as goal

abbrev pub ghosts-nanos_of-O-Ledger : goal.ghosts-nanos_of-O-Ledger
ghosts-nanos_of-O-Ledger g a = record { name = a.fresh.blank.name; parts = a.fresh.blank.parts }

abbrev pub ghosts-nanos_of-O-Opening : goal.ghosts-nanos_of-O-Opening
ghosts-nanos_of-O-Opening g a = record { opened = a.fresh.book.list.opening; clients = a.fresh.blank.parts }

abbrev pub ghosts-nanos_of-O-WatermarkId : goal.ghosts-nanos_of-O-WatermarkId
ghosts-nanos_of-O-WatermarkId g a = record { watermark = a.journal.watermark.cell.table.shared.table_id }

abbrev pub ghosts-nanos_of-O-JournalId : goal.ghosts-nanos_of-O-JournalId
ghosts-nanos_of-O-JournalId g a =
    record { front = a.journal.log.device.appended; base = a.manager.start.base; seed = a.journal.log.seed }

abbrev pub ghosts-nanos_of-O-DurableOpening : goal.ghosts-nanos_of-O-DurableOpening
ghosts-nanos_of-O-DurableOpening g a = record { table = a.journal.frames.table }
