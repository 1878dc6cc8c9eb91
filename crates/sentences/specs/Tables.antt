-- The sentence of a fault of a table's text.
use Rattle.std.specs.Prelude.{ℕ, ◌-◌, ◌+◌, ◌++◌, ◌==◌, cond, Option, None, Some, List, [], ◌∷◌, length, codes, slice_get}
use Rattle.std.specs.Fmt.{decimal}
use Rattle.csv.specs.Records.{field_at}
use Rattle.values.specs.declared.value.ColumnType.{ColumnType}
use Rattle.values.specs.declared.fault.SchemaFault.{SchemaFault}
use Rattle.values.specs.declared.fault.SchemaFault.TheVariants as schema
use Rattle.inputs.specs.Reading.{Fields}
use Rattle.inputs.specs.declared.fault.TableFault.{TableFault}
use Rattle.inputs.specs.declared.fault.TableFault.TheVariants as table
use Rattle.sentences.specs.Quoting.{quoted}
use Rattle.sentences.specs.Headings.{heading_fault, name_in}
use Rattle.sentences.specs.Cells.{cell_sentence, missing_cell, missing_record, place_of}
use Rattle.sentences.specs.Keys.{key_count, key_parts}
use Rattle.sentences.specs.declared.quoting.TheConstants.{ROOM}
use Rattle.sentences.specs.declared.cells.CellFault.TheVariants.{NotTyped, NotText, TooLong}

-- so many of something, by its word for one
abbrev pub counted : ℕ → List ℕ → List ℕ
counted count one = decimal count ++ (codes " " ++ (one ++ cond (count == 1) [] (codes "s")))

-- a fault that is of no record
abbrev pub textless : TableFault → List ℕ
textless table.NoHeader = codes "the text is empty: a header such as id:int:key,name:text is wanted"
textless table.TooManyRows = codes "the text has too many records: 2147483647 rows are the most"
textless fault = codes "there was no memory to read the text"

-- the record that a fault is of
abbrev pub record_of : TableFault → Option ℕ
record_of table.NoHeader = None
record_of (table.BadHeader col) = Some 1
record_of (table.Schema fault) = Some 1
record_of (table.BadCount number) = Some number
record_of (table.BadText number col) = Some number
record_of (table.BadCell number col) = Some number
record_of (table.TextTooLong number col) = Some number
record_of (table.RepeatedKey number) = Some number
record_of table.TooManyRows = None
record_of table.NoMemory = None

abbrev pub heading_sentence : List ColumnType → List ℕ → ℕ → Option (List ℕ) → List ℕ
heading_sentence types place col None = missing_cell place col
heading_sentence types place col (Some cell) =
    place ++ (codes ", column " ++ (decimal (col + 1) ++ (codes ": " ++ heading_fault types cell)))

abbrev pub repeated_sentence : List ColumnType → List ℕ → ℕ → Option (List ℕ) → List ℕ
repeated_sentence types place col None = missing_cell place col
repeated_sentence types place col (Some cell) =
    place ++ (codes ", column " ++ (decimal (col + 1) ++ (codes ": an earlier column has the name " ++ quoted ROOM (name_in types cell))))

-- how many key columns there are, where the header names them
abbrev pub key_count_sentence : List ColumnType → List ℕ → Fields → List ℕ
key_count_sentence [] place header =
    place ++ (codes ": " ++ (counted (key_count header) (codes "key column") ++ codes ", and 1 to 4 are wanted, as in id:int:key"))
key_count_sentence (type ∷ types) place header = place ++ codes ": a key of 1 to 4 columns is wanted"

abbrev pub schema_sentence : List ColumnType → List ℕ → Fields → SchemaFault → List ℕ
schema_sentence types place header schema.NoColumns = place ++ codes ": the header names no column"
schema_sentence types place header schema.TooManyColumns =
    place ++ (codes ": the header has " ++ (counted (length header) (codes "column") ++ codes ", and 32 are the most"))
schema_sentence types place header schema.BadKeyCount = key_count_sentence types place header
schema_sentence types place header (schema.RepeatedName col) = repeated_sentence types place col (field_at header col)
schema_sentence types place header schema.NoMemory = textless table.NoMemory

abbrev pub count_sentence : List ℕ → Fields → Fields → List ℕ
count_sentence place header fields =
    place
    ++ (codes ": " ++ (counted (length fields) (codes "cell") ++ (codes ", and the header has " ++ counted (length header) (codes "column"))))

-- the key, where the header names its columns
abbrev pub repeat_sentence : List ColumnType → List ℕ → Fields → Fields → List ℕ
repeat_sentence [] place header fields = place ++ (codes ", key" ++ (key_parts 0 header fields ++ codes ": an earlier record has this key"))
repeat_sentence (type ∷ types) place header fields = place ++ codes ": an earlier record has the key of this one"

-- the sentence of a fault of a record, which begins at a place
abbrev pub record_sentence : List ColumnType → List ℕ → Fields → Fields → TableFault → List ℕ
record_sentence types place header fields (table.BadHeader col) = heading_sentence types place col (field_at header col)
record_sentence types place header fields (table.Schema fault) = schema_sentence types place header fault
record_sentence types place header fields (table.BadCount number) = count_sentence place header fields
record_sentence types place header fields (table.BadText number col) = cell_sentence types place header fields col NotText
record_sentence types place header fields (table.BadCell number col) = cell_sentence types place header fields col NotTyped
record_sentence types place header fields (table.TextTooLong number col) = cell_sentence types place header fields col TooLong
record_sentence types place header fields (table.RepeatedKey number) = repeat_sentence types place header fields
record_sentence types place header fields fault = textless fault

abbrev pub found_sentence : List ColumnType → ℕ → ℕ → TableFault → Option Fields → Option Fields → List ℕ
found_sentence types line number fault None fields = missing_record number
found_sentence types line number fault (Some header) None = missing_record number
found_sentence types line number fault (Some header) (Some fields) = record_sentence types (place_of line number) header fields fault

abbrev pub numbered_sentence : List ColumnType → ℕ → List Fields → TableFault → Option ℕ → List ℕ
numbered_sentence types line records fault None = textless fault
numbered_sentence types line records fault (Some number) =
    found_sentence types line number fault (slice_get records 0) (slice_get records (number - 1))

-- the sentence of a fault of these records, the record of the fault beginning on this line
abbrev pub table_sentence : List ColumnType → ℕ → List Fields → TableFault → List ℕ
table_sentence types line records fault = numbered_sentence types line records fault (record_of fault)
