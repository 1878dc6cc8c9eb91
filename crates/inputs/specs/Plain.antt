-- A text whose header names columns and no types: the types that its first records show, the key, and the table.
use Rattle.std.specs.Prelude.{◌≡◌, ℕ, suc, ℤ, ◌==◌, Bool, true, false, ◌&&◌, not, Option, Some, None, Result, Ok, Err, List, [], ◌∷◌, ◌++◌, length, take, drop, map, position, is_some}
use Rattle.std.specs.List.{list_any, range_with_len, remove}
use Rattle.std.specs.List.Sorted.{IsPermutation}
use Rattle.std.specs.Str.{bytes_eq}
use Rattle.values.specs.Shape.{Columns}
use Rattle.values.specs.declared.value.ColumnType.{ColumnType}
use Rattle.values.specs.declared.value.ColumnType.TheVariants as column
use Rattle.values.specs.declared.row.Row.{Row}
use Rattle.inputs.specs.Cells.{int_of, truth_of, or_else, then_cons}
use Rattle.inputs.specs.Header.{as_schema, is_colon, named}
use Rattle.inputs.specs.Input.{Numbered, numbered_rows, keyed, IsAscending}
use Rattle.inputs.specs.Reading.{Fields, AreRecordsOf}
use Rattle.inputs.specs.declared.header.Heading.{Heading}
use Rattle.inputs.specs.declared.fault.TableFault.{TableFault}
use Rattle.inputs.specs.declared.fault.TableFault.TheVariants.{NoHeader, BadHeader}
use Rattle.inputs.specs.declared.fault.PlainFault.{PlainFault}
use Rattle.inputs.specs.declared.fault.PlainFault.TheVariants.{NoColumn, Table}

-- ---- types

abbrev pub kind_from : Option ℤ → Option Bool → ColumnType
kind_from (Some number) truth = column.Int
kind_from None (Some truth) = column.Bool
kind_from None None = column.Text

-- the type of what the bytes say: a number, a truth, and else a text
abbrev pub kind_of : List ℕ → ColumnType
kind_of bytes = kind_from (int_of bytes) (truth_of bytes)

-- the type that values of both types have
abbrev pub common_type : ColumnType → ColumnType → ColumnType
common_type column.Int column.Int = column.Int
common_type column.Int column.Text = column.Text
common_type column.Int column.Bool = column.Text
common_type column.Bool column.Bool = column.Bool
common_type column.Bool column.Int = column.Text
common_type column.Bool column.Text = column.Text
common_type column.Text other = column.Text

-- the type of the cells so far, where there was one, and of one more
abbrev pub joined_type : Option ColumnType → ColumnType → ColumnType
joined_type None kind = kind
joined_type (Some kind) other = common_type kind other

-- the same of each column; a record that is short leaves the others
abbrev pub joined : List (Option ColumnType) → Fields → List (Option ColumnType)
joined [] fields = []
joined (kind ∷ kinds) [] = kind ∷ kinds
joined (kind ∷ kinds) (field ∷ fields) = Some (joined_type kind (kind_of field)) ∷ joined kinds fields

abbrev pub seen : List (Option ColumnType) → List Fields → List (Option ColumnType)
seen kinds [] = kinds
seen kinds (fields ∷ records) = seen (joined kinds fields) records

-- no cell yet, of so many columns
abbrev pub unseen : ℕ → List (Option ColumnType)
unseen width = map (λ col. None) (range_with_len 0 width)

-- a column with no cell is one of texts
abbrev pub or_text : Option ColumnType → ColumnType
or_text None = column.Text
or_text (Some kind) = kind

-- the types of so many columns, by the cells of these records
abbrev pub types_shown : ℕ → List Fields → List ColumnType
types_shown width records = map or_text (seen (unseen width) records)

-- the types that the first `sample` records after the header show
abbrev pub types_found : ℕ → List Fields → List ColumnType
types_found sample [] = []
types_found sample (header ∷ records) = types_shown (length header) (take sample records)

-- ---- headers

-- whether a header cell has a type beside the name
abbrev pub has_type : List ℕ → Bool
has_type cell = is_some (position is_colon cell)

-- whether the first record names types
abbrev pub names_types : List Fields → Bool
names_types [] = false
names_types (header ∷ records) = list_any has_type header

abbrev pub plain_named : Option ℕ → List ℕ → ColumnType → Bool → Option Heading
plain_named (Some colon) name type is_key = None
plain_named None name type is_key = named name (Some (type, is_key))

-- the column that the cell `at` names: a name with no colon. The first is the key
abbrev pub plain_heading : ℕ → List ℕ → ColumnType → Result Heading TableFault
plain_heading at name type = or_else (BadHeader at) (plain_named (position is_colon name) name type (at == 0))

abbrev pub plain_headings : ℕ → Fields → List ColumnType → Result (List Heading) TableFault
plain_headings at [] types = Ok []
plain_headings at (name ∷ names) [] = Ok []
plain_headings at (name ∷ names) (type ∷ types) = then_cons (plain_heading at name type) (plain_headings (suc at) names types)

-- ---- the key

module _ {A : Type 0} where
  -- the element at a place before all others
  abbrev pub fronted : ℕ → List A → List A
  fronted place xs = take 1 (drop place xs) ++ remove xs place

  -- the same of one place after the other
  abbrev pub arranged : List ℕ → List A → List A
  arranged [] xs = xs
  arranged (place ∷ places) xs = arranged places (fronted place xs)

-- the first column is of the key, or not
abbrev pub first_in_key : Bool → List Heading → List Heading
first_in_key is_key [] = []
first_in_key is_key (heading ∷ headings) =
    record { name = heading.name; column = heading.column; is_key = is_key } ∷ headings

-- whether this is the column of the name, and not in the key yet
abbrev pub is_named : List ℕ → Heading → Bool
is_named name heading = not heading.is_key && bytes_eq heading.name name

-- columns of which some were moved before the others, one after the other
pub record Moved : Type 0 where
  pub places : List ℕ
  pub headings : List Heading

abbrev pub moved_to : ℕ → Moved → Option ℕ → Result Moved PlainFault
moved_to at so_far None = Err (NoColumn at)
moved_to at so_far (Some place) = Ok (record {
  places = so_far.places ++ place ∷ [];
  headings = first_in_key true (fronted place so_far.headings);
})

abbrev pub moved_next : ℕ → List ℕ → Result Moved PlainFault → Result Moved PlainFault
moved_next at name (Err fault) = Err fault
moved_next at name (Ok so_far) = moved_to at so_far (position (is_named name) so_far.headings)

-- the columns of these names before the others, in this order; `at` is the index of the first name
abbrev pub with_key : ℕ → List (List ℕ) → List Heading → Result Moved PlainFault
with_key at [] headings = Ok (record { places = []; headings = headings })
with_key at (name ∷ names) headings = moved_next at name (with_key (suc at) names headings)

-- ---- columns

-- the schema, the types in the text's order, and the columns that were moved
pub record PlainColumns : Type 0 where
  pub schema : Columns
  pub types : List ColumnType
  pub moved : List ℕ

abbrev pub as_found : List ColumnType → List ℕ → Result Columns TableFault → Result PlainColumns PlainFault
as_found types moved (Err fault) = Err (Table fault)
as_found types moved (Ok schema) = Ok (record { schema = schema; types = types; moved = moved })

abbrev pub rekeyed : List ColumnType → Result Moved PlainFault → Result PlainColumns PlainFault
rekeyed types (Err fault) = Err fault
rekeyed types (Ok so_far) = as_found types so_far.places (as_schema (Ok so_far.headings))

-- with no names the first column is the key
abbrev pub found_with : List (List ℕ) → List ColumnType → List Heading → Result Columns TableFault → Result PlainColumns PlainFault
found_with key types headings (Err fault) = Err (Table fault)
found_with [] types headings (Ok schema) = as_found types [] (Ok schema)
found_with (name ∷ names) types headings (Ok schema) = rekeyed types (with_key 0 (name ∷ names) (first_in_key false headings))

abbrev pub found_under : List (List ℕ) → List ColumnType → Result (List Heading) TableFault → Result PlainColumns PlainFault
found_under key types (Err fault) = Err (Table fault)
found_under key types (Ok headings) = found_with key types headings (as_schema (Ok headings))

-- the columns of this header, of these types
abbrev pub columns_found : List (List ℕ) → Fields → List ColumnType → Result PlainColumns PlainFault
columns_found key header types = found_under key types (plain_headings 0 header types)

-- the columns of the records, whose types the first `sample` after the header show
abbrev pub plain_columns : List (List ℕ) → ℕ → List Fields → Result PlainColumns PlainFault
plain_columns key sample [] = Err (Table NoHeader)
plain_columns key sample (header ∷ records) = columns_found key header (types_shown (length header) (take sample records))

-- ---- tables

abbrev pub moved_row : List ℕ → Numbered → Numbered
moved_row moved row = record { number = row.number; row = arranged moved row.row }

abbrev pub moved_rows : List ℕ → Result (List Numbered) TableFault → Result (List Numbered) TableFault
moved_rows moved (Err fault) = Err fault
moved_rows moved (Ok rows) = Ok (map (moved_row moved) rows)

abbrev pub as_plain : {A : Type 0} → Result A TableFault → Result A PlainFault
as_plain (Err fault) = Err (Table fault)
as_plain (Ok a) = Ok a

abbrev pub after_header : List Fields → List Fields
after_header [] = []
after_header (header ∷ records) = records

abbrev pub plain_under : Result PlainColumns PlainFault → List Fields → Result (Columns × List Row) PlainFault
plain_under (Err fault) records = Err fault
plain_under (Ok found) records = as_plain (keyed found.schema (moved_rows found.moved (numbered_rows found.types 2 records)))

-- the schema and the rows, in the order of the records, or the first fault
abbrev pub plain_table_of : List (List ℕ) → ℕ → List Fields → Result (Columns × List Row) PlainFault
plain_table_of key sample records = plain_under (plain_columns key sample records) (after_header records)

-- the text's records say this schema and these rows, each once; the rows stand in ascending key
pub record IsPlainTableOf (text : List ℕ) (key : List (List ℕ)) (sample : ℕ) (schema : Columns) (rows : List Row) : Type 0 where
  pub records : List Fields
  pub read : List Row
  pub are : AreRecordsOf text records
  pub said : plain_table_of key sample records ≡ Ok (schema, read)
  pub each_once : IsPermutation read rows
  pub ascending : IsAscending schema.key_cols rows

-- whatever the text's records are, this is their first fault
abbrev pub IsPlainFaultOf : List ℕ → List (List ℕ) → ℕ → PlainFault → Type 0
IsPlainFaultOf text key sample fault = (records : List Fields) → AreRecordsOf text records → plain_table_of key sample records ≡ Err fault

-- whatever the text's records are, these are the columns that are found
abbrev pub AreFound : List ℕ → List (List ℕ) → ℕ → PlainColumns → Type 0
AreFound text key sample found = (records : List Fields) → AreRecordsOf text records → plain_columns key sample records ≡ Ok found
