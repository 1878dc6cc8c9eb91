-- The opening is the one of its book, its ledger, its journal and its watermark.
use Rattle.durable_clients.proofs.run.Given as goal

abbrev pub ghosts-two_clients-O-Ledger : goal.ghosts-two_clients-O-Ledger
ghosts-two_clients-O-Ledger g a = record { name = a.fresh.blank.name; parts = a.fresh.blank.parts }

abbrev pub ghosts-two_clients-O-Opening : goal.ghosts-two_clients-O-Opening
ghosts-two_clients-O-Opening g a = record { opened = a.fresh.book.list.opening; clients = a.fresh.blank.parts }

abbrev pub ghosts-two_clients-O-WatermarkId : goal.ghosts-two_clients-O-WatermarkId
ghosts-two_clients-O-WatermarkId g a = record { watermark = a.watermark.cell.table.shared.table_id }

abbrev pub ghosts-two_clients-O-JournalId : goal.ghosts-two_clients-O-JournalId
ghosts-two_clients-O-JournalId g a = record { front = a.journal.device.appended; base = a.manager.start.base; seed = a.journal.seed }

abbrev pub ghosts-two_clients-O-DurableOpening : goal.ghosts-two_clients-O-DurableOpening
ghosts-two_clients-O-DurableOpening g a = record { table = 1 }
