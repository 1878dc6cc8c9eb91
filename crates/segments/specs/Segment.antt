-- A file of a journal, as its bytes say.
use Rattle.std.specs.Prelude.{ℕ, ◌==◌, ◌&&◌, if◌then◌else◌, Option, Some, None, Result, Ok, Err, List, length}
use Rattle.journal.specs.Header.{HeaderFields, header_in}
use Rattle.journal.specs.declared.fault.HeaderFault.{HeaderFault}
use Rattle.segments.specs.Version.{is_later_header}
use Rattle.segments.specs.declared.fault.SegmentFault.{SegmentFault}
use Rattle.segments.specs.declared.fault.SegmentFault.TheVariants.{NotInTurn, OtherStore, LaterVersion}
use Rattle.segments.specs.declared.segment.Segment.{Segment}

-- the number of the commit before a file's first frame, where it has a header
abbrev pub base_in : Segment → Option ℕ
base_in s = if s.front == 0 then None else Some s.base

-- a file whose header says this; one without a header has frames alone, but for a header of a later version
abbrev pub segment_by : ℕ → ℕ → List ℕ → Result (HeaderFields × List ℕ) HeaderFault → Result Segment SegmentFault
segment_by salt store bytes (Ok found) =
    if (found.0.salt == salt) && (found.0.store == store) then Ok (record { base = found.0.base; front = 36; len = length found.1 })
    else Err OtherStore
segment_by salt store bytes (Err fault) =
    if is_later_header bytes then Err LaterVersion else Ok (record { base = 0; front = 0; len = length bytes })

unfoldable pub segment_in : ℕ → ℕ → List ℕ → Result Segment SegmentFault
segment_in salt store bytes = segment_by salt store bytes (header_in bytes)

-- the file of a number, where this one is due
abbrev pub segment_of : ℕ → ℕ → ℕ → ℕ → List ℕ → Result Segment SegmentFault
segment_of due number salt store bytes = if number == due then segment_in salt store bytes else Err NotInTurn
