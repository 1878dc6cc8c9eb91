-- What bytes say as the payload of a commit, read from the left, or the first fault.
use Rattle.std.specs.Prelude.{◌≡◌, ℕ, zero, suc, ◌+◌, ◌-◌, ◌==◌, nat_lt, true, false, if◌then◌else◌, Option, Some, None, List, [], ◌∷◌, length, take, drop, get_or, slice_get, Result, Ok, Err}
use Rattle.std.specs.Borrow.{Bor}
use Rattle.std.specs.Int.{w32, from_be_bytes}
use Rattle.std.specs.Str.{is_utf8}
use Rattle.values.specs.Shape.{Columns}
use Rattle.values.specs.declared.value.ColumnType.{ColumnType}
use Rattle.values.specs.declared.value.ColumnType.TheVariants as column
use Rattle.values.specs.declared.value.Value.{Value}
use Rattle.values.specs.declared.value.Value.TheVariants.{Text, Bool as Truth}
use Rattle.values.specs.declared.limits.TheConstants.{MAX_TEXT_BYTES}
use Rattle.blocks.specs.Reading.{int_of, length_of}
use Rattle.model.specs.declared.entry.Entry.{Entry}
use Rattle.model.specs.declared.entry.Change.{Change}
use Rattle.model.specs.declared.entry.Change.TheVariants.{Ins, Del, Mod}
use Rattle.codec.specs.declared.fault.PayloadFault.{PayloadFault}
use Rattle.codec.specs.declared.fault.PayloadFault.TheVariants.{Short, BadTable, BadKind, BadColumn, BadCell, NoMemory}
use Rattle.codec.specs.declared.format.TheConstants.{INSERT, DELETE, MODIFY, FALSE, TRUE}
use Rattle.codec.specs.declared.parts.PartBytes.{PartBytes}

-- what is read after a step, or the step's fault
infixl 10 ◌>>=◌
abbrev pub ◌>>=◌ : {A B : Type 0} → Result A PayloadFault → (A → Result B PayloadFault) → Result B PayloadFault
(Ok x) >>= next = next x
(Err fault) >>= next = Err fault

-- where bytes begin that go on to this end
abbrev pub begin : ℕ → List ℕ → ℕ
begin end bytes = end - length bytes

-- the number that four bytes spell
abbrev pub word_at : List ℕ → ℕ → ℕ
word_at bytes i =
    from_be_bytes w32 (get_or bytes i 0 ∷ get_or bytes (i + 1) 0 ∷ get_or bytes (i + 2) 0 ∷ get_or bytes (i + 3) 0 ∷ [])

-- ---- cells: each is found at the front of bytes that go on to an end, and given with the bytes after it

abbrev pub FoundValue : Type 0
FoundValue = Value × List ℕ

abbrev pub FoundChange : Type 0
FoundChange = Change × List ℕ

abbrev pub FoundEntry : Type 0
FoundEntry = Entry × List ℕ

unfoldable pub int_at : ℕ → List ℕ → Result FoundValue PayloadFault
int_at end bytes = if nat_lt (length bytes) 8 then Err (Short (begin end bytes)) else Ok (int_of (take 8 bytes), drop 8 bytes)

unfoldable pub text_at : ℕ → List ℕ → Result FoundValue PayloadFault
text_at end bytes =
    if nat_lt (length bytes) 2 then Err (Short (begin end bytes))
    else if nat_lt MAX_TEXT_BYTES (length_of bytes) then Err (BadCell (begin end bytes))
    else if nat_lt (length (drop 2 bytes)) (length_of bytes) then Err (Short (begin end bytes))
    else if is_utf8 (take (length_of bytes) (drop 2 bytes)) then Ok
    (Text (take (length_of bytes) (drop 2 bytes)), drop (length_of bytes) (drop 2 bytes))
    else Err (BadCell (begin end bytes))

unfoldable pub truth_at : ℕ → List ℕ → Result FoundValue PayloadFault
truth_at end bytes =
    if nat_lt (length bytes) 1 then Err (Short (begin end bytes))
    else if get_or bytes 0 0 == TRUE then Ok (Truth true, drop 1 bytes)
    else if get_or bytes 0 0 == FALSE then Ok (Truth false, drop 1 bytes)
    else Err (BadCell (begin end bytes))

abbrev pub cell_at : ColumnType → ℕ → List ℕ → Result FoundValue PayloadFault
cell_at column.Int end bytes = int_at end bytes
cell_at column.Text end bytes = text_at end bytes
cell_at column.Bool end bytes = truth_at end bytes

-- a value before others
abbrev pub before : Value → List Value × List ℕ → List Value × List ℕ
before value found = (value ∷ found.0, found.1)

-- a cell of each type
abbrev pub cells_at : List ColumnType → ℕ → List ℕ → Result (List Value × List ℕ) PayloadFault
cells_at [] end bytes = Ok ([], bytes)
cells_at (ty ∷ types) end bytes =
    cell_at ty end bytes >>= λ cell. cells_at types end cell.1 >>= λ cells. Ok (before cell.0 cells)

-- ---- entries

-- the type of a column outside the key
unfoldable pub settable : Columns → ℕ → Option ColumnType
settable schema col = if nat_lt col schema.key_cols then None else slice_get schema.types col

-- a modify of the column, whose byte stands at this offset, by the cell at the front of the bytes
abbrev pub modify_of : Option ColumnType → ℕ → ℕ → ℕ → List ℕ → Result FoundChange PayloadFault
modify_of None col at end bytes = Err (BadColumn at)
modify_of (Some ty) col at end bytes = cell_at ty end bytes >>= λ cell. Ok (Mod col cell.0, cell.1)

-- the column and the cell of a modify
unfoldable pub modify_at : Columns → ℕ → List ℕ → Result FoundChange PayloadFault
modify_at schema end bytes =
    if nat_lt (length bytes) 1 then Err (Short (begin end bytes))
    else modify_of (settable schema (get_or bytes 0 0)) (get_or bytes 0 0) (begin end bytes) end (drop 1 bytes)

-- an insert of the row that was found
abbrev pub row_then : Result (List Value × List ℕ) PayloadFault → Result FoundChange PayloadFault
row_then found = found >>= λ row. Ok (Ins row.0, row.1)

-- a delete of the key that was found
abbrev pub key_then : Result (List Value × List ℕ) PayloadFault → Result FoundChange PayloadFault
key_then found = found >>= λ key. Ok (Del key.0, key.1)

-- the kind of an entry, and what follows it
unfoldable pub change_at : Columns → ℕ → List ℕ → Result FoundChange PayloadFault
change_at schema end bytes =
    if get_or bytes 0 0 == INSERT then row_then (cells_at schema.types end (drop 1 bytes))
    else if get_or bytes 0 0 == DELETE then key_then (cells_at (take schema.key_cols schema.types) end (drop 1 bytes))
    else if get_or bytes 0 0 == MODIFY then modify_at schema end (drop 1 bytes)
    else Err (BadKind (begin end bytes))

-- the entry at this SID that does what was found
abbrev pub entry_then : ℕ → Result FoundChange PayloadFault → Result FoundEntry PayloadFault
entry_then sid found = found >>= λ change. Ok (record { sid = sid; change = change.0 }, change.1)

-- an entry: its SID, and what it does
unfoldable pub entry_at : Columns → ℕ → List ℕ → Result FoundEntry PayloadFault
entry_at schema end bytes =
    if nat_lt (length bytes) 5 then Err (Short (begin end bytes))
    else entry_then (word_at bytes 0) (change_at schema end (drop 4 bytes))

-- an entry, and those that are read after it
abbrev pub and_then : Entry → Result (List Entry) PayloadFault → Result (List Entry) PayloadFault
and_then entry others = others >>= λ entries. Ok (entry ∷ entries)

-- the entries up to the end, at most so many
unfoldable pub entries_up : ℕ → Columns → ℕ → List ℕ → Result (List Entry) PayloadFault
entries_up zero schema end bytes = Ok []
entries_up (suc most) schema end [] = Ok []
entries_up (suc most) schema end (byte ∷ bytes) =
    entry_at schema end (byte ∷ bytes) >>= λ found. and_then found.0 (entries_up most schema end found.1)

-- the entries of bytes that go on to this end: each has a byte at least
abbrev pub entries_to : Columns → ℕ → List ℕ → Result (List Entry) PayloadFault
entries_to schema end bytes = entries_up (length bytes) schema end bytes

-- ---- parts

-- a table, the bytes of its entries, and the offset at which they end
pub record Span : Type 0 where
  pub table : ℕ
  pub end : ℕ
  pub bytes : List ℕ

abbrev pub FoundSpan : Type 0
FoundSpan = Span × List ℕ

-- the part at the front of the bytes, with the bytes after it
abbrev pub span_of : ℕ → List ℕ → FoundSpan
span_of end bytes = (
  record {
    table = word_at bytes 0;
    end = begin end (drop (word_at bytes 4) (drop 8 bytes));
    bytes = take (word_at bytes 4) (drop 8 bytes);
  },
  drop (word_at bytes 4) (drop 8 bytes),
)

-- where it is whole, and of this table or one above
unfoldable pub span_at : ℕ → ℕ → List ℕ → Result FoundSpan PayloadFault
span_at end low bytes =
    if nat_lt (length bytes) 8 then Err (Short (begin end bytes))
    else if nat_lt (word_at bytes 0) low then Err (BadTable (begin end bytes))
    else if nat_lt (length (drop 8 bytes)) (word_at bytes 4) then Err (Short (begin end bytes))
    else Ok (span_of end bytes)

-- a part, and those that are read after it
abbrev pub span_then : Span → Result (List Span) PayloadFault → Result (List Span) PayloadFault
span_then span others = others >>= λ spans. Ok (span ∷ spans)

-- the parts up to the end, at most so many, the first of this table or one above
unfoldable pub spans_up : ℕ → ℕ → ℕ → List ℕ → Result (List Span) PayloadFault
spans_up zero end low bytes = Ok []
spans_up (suc most) end low [] = Ok []
spans_up (suc most) end low (byte ∷ bytes) =
    span_at end low (byte ∷ bytes) >>= λ found. span_then found.0 (spans_up most end (found.0.table + 1) found.1)

-- the parts of a payload: each has a byte at least
abbrev pub spans_in : List ℕ → Result (List Span) PayloadFault
spans_in bytes = spans_up (length bytes) (length bytes) 0 bytes

-- the part of the table among parts, or else the one that was found before
abbrev pub found_among : ℕ → Option Span → List Span → Option Span
found_among table found [] = found
found_among table found (span ∷ spans) = found_among table (if span.table == table then Some span else found) spans

-- the part of the table, where the payload has one
abbrev pub span_in : ℕ → List ℕ → Result (Option Span) PayloadFault
span_in table bytes = spans_in bytes >>= λ spans. Ok (found_among table None spans)

-- the bytes of a part's entries
abbrev pub bytes_in : Option Span → List ℕ
bytes_in None = []
bytes_in (Some span) = span.bytes

-- the bytes of the table's entries; none where the payload has no part of it
abbrev pub part_in : ℕ → List ℕ → Result (List ℕ) PayloadFault
part_in table bytes = span_in table bytes >>= λ found. Ok (bytes_in found)

-- the entries of a part
abbrev pub entries_of : Columns → Option Span → Result (List Entry) PayloadFault
entries_of schema None = Ok []
entries_of schema (Some span) = entries_to schema span.end span.bytes

-- the entries of the table, of this schema
abbrev pub entries_in : Columns → ℕ → List ℕ → Result (List Entry) PayloadFault
entries_in schema table bytes = span_in table bytes >>= entries_of schema

-- what was read, or nothing at a fault
abbrev pub entries_or_none : Result (List Entry) PayloadFault → List Entry
entries_or_none (Ok entries) = entries
entries_or_none (Err fault) = []

-- the entries of the table that a payload says, or none at a fault
abbrev pub decoded : Columns → ℕ → List ℕ → List Entry
decoded schema table bytes = entries_or_none (entries_in schema table bytes)

-- ---- what an answer says

-- what was found, the bytes after it no longer lent
abbrev pub found_now : {A : Type 0} → A × Bor (List ℕ) → A × List ℕ
found_now found = (found.0, found.1.now)

abbrev pub span_now : PartBytes → Span
span_now part = record { table = part.table; end = part.end; bytes = part.bytes.now }

abbrev pub found_span : PartBytes × Bor (List ℕ) → FoundSpan
found_span found = (span_now found.0, found.1.now)

abbrev pub maybe_span : Option PartBytes → Option Span
maybe_span None = None
maybe_span (Some part) = Some (span_now part)

-- a fault that was answered is that of the reading, unless memory ran out
abbrev pub Fails : {Y : Type 0} → PayloadFault → Result Y PayloadFault → Type 0
Fails NoMemory reading = Unit {0}
Fails (Short at) reading = reading ≡ Err (Short at)
Fails (BadTable at) reading = reading ≡ Err (BadTable at)
Fails (BadKind at) reading = reading ≡ Err (BadKind at)
Fails (BadColumn at) reading = reading ≡ Err (BadColumn at)
Fails (BadCell at) reading = reading ≡ Err (BadCell at)

-- what was answered, seen by `view`, is the reading, unless memory ran out
abbrev pub Gives : {X Y : Type 0} → (X → Y) → Result X PayloadFault → Result Y PayloadFault → Type 0
Gives view (Ok x) reading = reading ≡ Ok (view x)
Gives view (Err fault) reading = Fails fault reading
