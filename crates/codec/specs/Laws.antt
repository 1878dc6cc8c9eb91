-- The laws of payloads.
use Rattle.std.specs.Prelude.{◌≡◌, ◌≢◌, ◌<◌, ◌≤◌, ◌^◌, ℕ, ◌+◌, List, [], ◌∷◌, length, Ok}
use Rattle.std.specs.List.{All, flat_map}
use Rattle.values.specs.Shape.{Columns, IsSchema}
use Rattle.values.specs.declared.limits.TheConstants.{MAX_ROWS}
use Rattle.blocks.specs.Payload.{AreBytes}
use Rattle.model.specs.declared.entry.Entry.{Entry}
use Rattle.model.specs.Table.{Table}
use Rattle.model.specs.Effects.{Effects, AreOver}
use Rattle.model.specs.Entries.{canonical_entries}
use Rattle.codec.specs.Fit.{EntriesFit, ArePlainEntries}
use Rattle.codec.specs.Payload.{Part, AreParts, entries_bytes, framed, payload_of}
use Rattle.codec.specs.Reading.{Span, entries_to, entries_in, part_in, spans_in}

-- whether entries are read again from their bytes, wherever these end
abbrev pub ReadBack : Columns → List Entry → Type 0
ReadBack schema entries = (end : ℕ) → entries_to schema end (entries_bytes entries) ≡ Ok entries

-- each table's entries are read from the payload of all parts
abbrev pub PartsReadBack : Type 0
PartsReadBack =
    (parts : List Part) → AreParts 0 parts
    → All (λ part. (part_in part.table (payload_of parts) ≡ Ok (entries_bytes part.entries))
    × ((schema : Columns) → ReadBack schema part.entries → entries_in schema part.table (payload_of parts) ≡ Ok part.entries)) parts

-- and none for another table
abbrev pub OthersReadNone : Type 0
OthersReadNone =
    (parts : List Part) (schema : Columns) (table : ℕ) → AreParts 0 parts → All (λ part. part.table ≢ table) parts
    → entries_in schema table (payload_of parts) ≡ Ok []

-- the entries of a commit can be written
abbrev pub CommitEntriesFit : Type 0
CommitEntriesFit =
    (schema : Columns) (t : Table) (effects : Effects) → IsSchema schema → AreOver schema t effects → length t ≤ MAX_ROWS
    → EntriesFit schema (canonical_entries t effects)

-- ---- for all bytes

-- parts by the bytes of their entries, one after the other
abbrev pub spans_bytes : List Span → List ℕ
spans_bytes spans = flat_map (λ span. framed span.table span.bytes) spans

-- whether they may stand in a payload: their tables ascend from this one on, and table and size fit four bytes
abbrev pub AreSpans : ℕ → List Span → Type 0
AreSpans low [] = Unit {0}
AreSpans low (span ∷ spans) =
    (low ≤ span.table) × (span.table < 2 ^ 32) × (length span.bytes < 2 ^ 32) × AreSpans (span.table + 1) spans

-- bytes that read as parts are spelt by them
abbrev pub PartsAreSpelt : Type 0
PartsAreSpelt =
    (bytes : List ℕ) (spans : List Span) → AreBytes bytes → spans_in bytes ≡ Ok spans
    → (bytes ≡ spans_bytes spans) × AreSpans 0 spans

-- and the part of a table that reads as entries by these, which can be written
abbrev pub EntriesAreSpelt : Type 0
EntriesAreSpelt =
    (schema : Columns) (table : ℕ) (bytes : List ℕ) (entries : List Entry) → AreBytes bytes
    → entries_in schema table bytes ≡ Ok entries
    → (part_in table bytes ≡ Ok (entries_bytes entries)) × EntriesFit schema entries × ArePlainEntries entries

-- bytes are the payload of one list of parts at most
abbrev pub APayloadIsOfOneList : Type 0
APayloadIsOfOneList =
    (schema_of : ℕ → Columns) (parts others : List Part) → AreParts 0 parts → AreParts 0 others
    → All (λ part. ReadBack (schema_of part.table) part.entries) parts
    → All (λ part. ReadBack (schema_of part.table) part.entries) others
    → payload_of parts ≡ payload_of others → parts ≡ others
