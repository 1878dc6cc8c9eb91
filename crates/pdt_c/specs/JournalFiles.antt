-- What C is told of the files of a journal.
use Rattle.std.specs.Prelude.{◌≡◌, ℕ, Result, Ok, Err}
use Rattle.segments.specs.declared.ends.JournalEnd.{JournalEnd}
use Rattle.segments.specs.declared.fault.SegmentFault.{SegmentFault}
use Rattle.segments.specs.declared.fault.SegmentFault.TheVariants.{NotInTurn, OtherStore, LaterVersion}
use Rattle.segments.specs.declared.segment.Segment.{Segment}
use Rattle.pdt_c.specs.declared.calls.journal_files.EndRecord.{EndRecord}
use Rattle.pdt_c.specs.declared.codes.TheConstants.{DONE, GAP, MISFIT, NEWER_FORMAT}

abbrev pub told_segment : SegmentFault → ℕ
told_segment NotInTurn = GAP
told_segment OtherStore = MISFIT
told_segment LaterVersion = NEWER_FORMAT

-- a file is told, or why it is none of the journal, and then nothing changes
abbrev pub IsToldFile : Result Segment SegmentFault → ℕ → Segment → Segment → Type 0
IsToldFile (Ok found) code old new = (code ≡ DONE) × (new ≡ found)
IsToldFile (Err fault) code old new = (code ≡ told_segment fault) × (new ≡ old)

abbrev pub end_record : JournalEnd → EndRecord
end_record end = record { place = end.place; kept = end.kept; torn = end.torn; missing = 0; is_anew = end.is_anew }
