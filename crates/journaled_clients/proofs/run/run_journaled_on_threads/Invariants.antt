-- The opening is the one of its book, its ledger, its journal, its watermark and its transcript.
use Rattle.journaled_clients.proofs.run.run_journaled_on_threads.Given as goal

abbrev pub ghosts-run_shared-O-Ledger : goal.ghosts-run_shared-O-Ledger
ghosts-run_shared-O-Ledger g a = record { name = a.fresh.blank.name; parts = a.fresh.blank.parts }

abbrev pub ghosts-run_shared-O-Opening : goal.ghosts-run_shared-O-Opening
ghosts-run_shared-O-Opening g a = record { opened = a.fresh.book.list.opening; clients = a.fresh.blank.parts }

abbrev pub ghosts-run_shared-O-WatermarkId : goal.ghosts-run_shared-O-WatermarkId
ghosts-run_shared-O-WatermarkId g a = record { watermark = a.journal.watermark.cell.table.shared.table_id }

abbrev pub ghosts-run_shared-O-JournalId : goal.ghosts-run_shared-O-JournalId
ghosts-run_shared-O-JournalId g a =
    record { front = a.journal.log.device.appended; base = a.manager.start.base; seed = a.journal.log.seed }

abbrev pub ghosts-run_shared-O-DurableOpening : goal.ghosts-run_shared-O-DurableOpening
ghosts-run_shared-O-DurableOpening g a = record { table = a.journal.frames.table }

abbrev pub ghosts-run_shared-O-TranscriptId : goal.ghosts-run_shared-O-TranscriptId
ghosts-run_shared-O-TranscriptId g a = record { names = a.script.now.clients; before = g.W.Write.contents a.out }
