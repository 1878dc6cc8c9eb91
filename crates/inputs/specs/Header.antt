-- The columns that a table's first record names.
use Rattle.std.specs.Prelude.{ℕ, suc, ◌+◌, ◌==◌, nat_lt, Bool, true, false, cond, ◌&&◌, not, Option, Some, None, Result, Ok, Err, List, [], ◌∷◌, length, take, drop, map, count_by, position, find, codes}
use Rattle.std.specs.Str.{is_utf8, bytes_eq}
use Rattle.values.specs.Shape.{Columns, schema_fault}
use Rattle.values.specs.declared.value.ColumnType.{ColumnType}
use Rattle.values.specs.declared.value.ColumnType.TheVariants as column
use Rattle.values.specs.declared.fault.SchemaFault.{SchemaFault}
use Rattle.inputs.specs.Cells.{then_cons}
use Rattle.inputs.specs.Reading.{Fields}
use Rattle.inputs.specs.declared.fault.TableFault.{TableFault}
use Rattle.inputs.specs.declared.fault.TableFault.TheVariants.{BadHeader, Schema}
use Rattle.inputs.specs.declared.header.Heading.{Heading}
use Rattle.values.specs.declared.limits.TheConstants.{MAX_NAME_BYTES}
use Rattle.inputs.specs.declared.header.TheConstants.{KINDS}

abbrev pub is_colon : ℕ → Bool
is_colon c = c == 58

-- how a header cell writes a type, and that the column is one of the key
abbrev pub kind_word : ColumnType → Bool → List ℕ
kind_word column.Int false = codes "int"
kind_word column.Text false = codes "text"
kind_word column.Bool false = codes "bool"
kind_word column.Int true = codes "int:key"
kind_word column.Text true = codes "text:key"
kind_word column.Bool true = codes "bool:key"

-- the type that a header cell gives after the name, and whether the column is one of the key
abbrev pub heading_kind : List ℕ → Option (ColumnType × Bool)
heading_kind bytes = find (λ kind. bytes_eq (kind_word kind.0 kind.1) bytes) KINDS

-- a column of this name, which is a text of 1 to 64 bytes
abbrev pub named : List ℕ → Option (ColumnType × Bool) → Option Heading
named name None = None
named name (Some kind) =
    cond (length name == 0) None
    (cond (nat_lt MAX_NAME_BYTES (length name)) None
    (cond (is_utf8 name) (Some (record { name = name; column = kind.0; is_key = kind.1 })) None))

-- the column of the name before a colon and the type after it
abbrev pub parted : List ℕ → Option ℕ → Option Heading
parted bytes None = None
parted bytes (Some colon) = named (take colon bytes) (heading_kind (drop (colon + 1) bytes))

-- the column that a header cell names: a name, the first colon, a type, and `:key` for a key column
abbrev pub heading_of : List ℕ → Option Heading
heading_of bytes = parted bytes (position is_colon bytes)

-- the column that cell `at` names, where a key column may stand there or not
abbrev pub placed : ℕ → Bool → Option Heading → Result Heading TableFault
placed at in_key None = Err (BadHeader at)
placed at in_key (Some heading) = cond (heading.is_key && not in_key) (Err (BadHeader at)) (Ok heading)

abbrev pub is_key_column : Option Heading → Bool
is_key_column None = false
is_key_column (Some heading) = heading.is_key

-- the columns that the cells from `at` on name; a key column only where the column before it is one, or there is none
abbrev pub headings_of : ℕ → Bool → Fields → Result (List Heading) TableFault
headings_of at in_key [] = Ok []
headings_of at in_key (field ∷ fields) =
    then_cons (placed at in_key (heading_of field)) (headings_of (suc at) (is_key_column (heading_of field)) fields)

-- the schema of these columns
abbrev pub columns_named : List Heading → Columns
columns_named headings = record {
  names = map (λ heading. heading.name) headings;
  types = map (λ heading. heading.column) headings;
  key_cols = count_by (λ heading. heading.is_key) headings;
}

abbrev pub unless_refused : Columns → Option SchemaFault → Result Columns TableFault
unless_refused columns None = Ok columns
unless_refused columns (Some fault) = Err (Schema fault)

abbrev pub as_schema : Result (List Heading) TableFault → Result Columns TableFault
as_schema (Err fault) = Err fault
as_schema (Ok headings) = unless_refused (columns_named headings) (schema_fault (columns_named headings))

-- the schema that the first record names
abbrev pub schema_of : Fields → Result Columns TableFault
schema_of header = as_schema (headings_of 0 true header)
