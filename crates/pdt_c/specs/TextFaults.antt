-- Why a text is no table, as C is told it.
use Rattle.std.specs.Prelude.{◌≡◌, ◌<◌, ℕ, List}
use Rattle.values.specs.declared.limits.TheConstants.{MAX_COLUMNS}
use Rattle.values.specs.declared.fault.SchemaFault.{SchemaFault}
use Rattle.values.specs.declared.fault.SchemaFault.TheVariants as schema
use Rattle.inputs.specs.declared.fault.TableFault.{TableFault}
use Rattle.inputs.specs.declared.fault.TableFault.TheVariants.{NoHeader, BadHeader, Schema, BadCount, BadText, BadCell, TextTooLong, RepeatedKey, TooManyRows, NoMemory}
use Rattle.inputs.specs.declared.fault.PlainFault.{PlainFault}
use Rattle.inputs.specs.declared.fault.PlainFault.TheVariants.{NoColumn, Table}
use Rattle.inputs.specs.Plain.{types_found}
use Rattle.inputs.specs.Reading.{AreRecordsOf, Fields}
use Rattle.sentences.specs.Tables.{table_sentence}
use Rattle.values.specs.declared.value.ColumnType.{ColumnType}
use Rattle.pdt_c.specs.Told.{IsPut}
use Rattle.pdt_c.specs.declared.text_fault.TextFault.{TextFault}

-- this sentence, at this record, which counts from 1 with the header, and this column
abbrev pub at : ℕ → ℕ → ℕ → TextFault
at row column cause = record { row = row; column = column; cause = cause }

-- of a header whose columns make no schema
abbrev pub told_of_schema : SchemaFault → TextFault
told_of_schema schema.NoColumns = at 1 0 3
told_of_schema schema.TooManyColumns = at 1 MAX_COLUMNS 4
told_of_schema schema.BadKeyCount = at 1 0 5
told_of_schema (schema.RepeatedName column) = at 1 column 6
told_of_schema schema.NoMemory = at 0 0 0

-- of a text: the record, the column where the fault has one, and the sentence; nothing where the text isn't what is wrong
abbrev pub told_of : TableFault → TextFault
told_of NoHeader = at 1 0 1
told_of (BadHeader column) = at 1 column 2
told_of (Schema fault) = told_of_schema fault
told_of (BadCount row) = at row 0 7
told_of (BadText row column) = at row column 8
told_of (BadCell row column) = at row column 9
told_of (TextTooLong row column) = at row column 10
told_of (RepeatedKey row) = at row 0 11
told_of TooManyRows = at 0 0 0
told_of NoMemory = at 0 0 0

-- the same of a text whose header names no types; the column is then the index of a name of the key
abbrev pub told_of_plain : PlainFault → TextFault
told_of_plain (NoColumn name) = at 1 name 12
told_of_plain (Table (BadHeader column)) = at 1 column 13
told_of_plain (Table fault) = told_of fault

-- bytes, if there are any, are the sentence that explains a fault of a text, with some line number: no contract says on which line a record
-- begins
abbrev pub Explains : List ℕ → List ColumnType → TableFault → ℕ → List ℕ → Type 0
Explains text types fault count room =
    0 < count
    → (line : ℕ) × ((records : List Fields) → AreRecordsOf text records → IsPut count room (table_sentence types line records fault))

-- the same of a text whose header names no types, which are those that the first `sample` records show
abbrev pub ExplainsPlain : List ℕ → ℕ → PlainFault → ℕ → List ℕ → Type 0
ExplainsPlain text sample (NoColumn name) count room = count ≡ 0
ExplainsPlain text sample (Table fault) count room =
    0 < count
    → (line : ℕ) × ((records : List Fields) → AreRecordsOf text records
    → IsPut count room (table_sentence (types_found sample records) line records fault))
