-- What C reads of a journal, and writes into one.
use Rattle.std.specs.Prelude.{◌≡◌, ◌≤◌, ◌^◌, ℕ, if◌then◌else◌, Option, Some, None, List, [], ◌++◌, length, Result, Ok, Err}
use Rattle.values.specs.Shape.{Columns}
use Rattle.codec.specs.Payload.{entries_bytes, part_bytes}
use Rattle.codec.specs.Reading.{entries_in}
use Rattle.delta.specs.Tree.{Tree}
use Rattle.journal.specs.Header.{HeaderFields}
use Rattle.journal.specs.declared.fault.HeaderFault.{HeaderFault}
use Rattle.pdt_c.specs.declared.calls.journals.JournalHeader.{JournalHeader}
use Rattle.segments.specs.Version.{is_later_header}
use Rattle.pdt_c.specs.declared.codes.TheConstants.{DONE, NEWER_FORMAT, ROT}

-- a header, as C is told it
abbrev pub told_header : HeaderFields → JournalHeader
told_header h = record { salt = h.salt; store = h.store; base = h.base }

-- what bytes begin with is told: a header, or that they are of a later version or damaged, and then nothing changes
abbrev pub IsToldHeader : List ℕ → Result (HeaderFields × List ℕ) HeaderFault → ℕ → JournalHeader → JournalHeader → Type 0
IsToldHeader bytes (Ok found) code old new = (code ≡ DONE) × (new ≡ told_header found.0)
IsToldHeader bytes (Err fault) code old new = (code ≡ (if is_later_header bytes then NEWER_FORMAT else ROT)) × (new ≡ old)

-- bytes are the part of a commit's tree under a table's number, and are read as its entries again; none where the table is left
abbrev pub IsPartOf : Columns → ℕ → Option Tree → List ℕ → Type 0
IsPartOf schema table None bytes = bytes ≡ []
IsPartOf schema table (Some tree) bytes = (bytes ≡ part_bytes table tree.entries) × (entries_in schema table bytes ≡ Ok tree.entries)

-- such a part is behind the bytes that were there
abbrev pub IsAppended : Columns → ℕ → Option Tree → List ℕ → List ℕ → Type 0
IsAppended schema table tree old new = (part : List ℕ) × IsPartOf schema table tree part × (new ≡ old ++ part)

-- the entries of a commit's tree have too many bytes for a part
abbrev pub IsLong : Option Tree → Type 0
IsLong None = ⊥
IsLong (Some tree) = 2 ^ 32 ≤ length (entries_bytes tree.entries)
