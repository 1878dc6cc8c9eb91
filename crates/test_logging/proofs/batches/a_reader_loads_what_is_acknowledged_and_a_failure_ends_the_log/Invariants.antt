-- The journal and the watermark have the names of these.
use Rattle.test_logging.proofs.batches.a_reader_loads_what_is_acknowledged_and_a_failure_ends_the_log.Given as goal

abbrev pub ghosts-answers_over-J-WatermarkId : goal.ghosts-answers_over-J-WatermarkId
ghosts-answers_over-J-WatermarkId g a = record { watermark = a.fresh.cell.table.shared.table_id }

abbrev pub ghosts-answers_over-J-JournalId : goal.ghosts-answers_over-J-JournalId
ghosts-answers_over-J-JournalId g a = record { front = a.journal.device.appended; base = 7; seed = a.journal.seed }
