-- What a verb wants of its arguments, and what is wrong with one.
use Rattle.std.specs.Prelude.{ℕ, ◌-◌, ◌+◌, ◌++◌, ◌==◌, nat_lt, cond, Option, None, Some, List, length, codes, slice_get}
use Rattle.csv.specs.Records.{field_at}
use Rattle.values.specs.Shape.{Columns}
use Rattle.values.specs.declared.value.ColumnType.{ColumnType}
use Rattle.inputs.specs.Calls.{verb_of}
use Rattle.inputs.specs.Cells.{place_from}
use Rattle.inputs.specs.Reading.{Fields}
use Rattle.inputs.specs.declared.verb.Verb.{Verb}
use Rattle.inputs.specs.declared.verb.Verb.TheVariants as verb
use Rattle.sentences.specs.Quoting.{quoted}
use Rattle.sentences.specs.Cells.{in_column, not_typed}
use Rattle.sentences.specs.declared.quoting.TheConstants.{ROOM}
use Rattle.sentences.specs.declared.arguments.Wanted.{Wanted}
use Rattle.sentences.specs.declared.arguments.Wanted.TheVariants.{Cell, Name, Position, Nothing}

-- a sentence that shows a field behind a place, where there is one
abbrev pub field_sentence : List ℕ → Option (List ℕ) → List ℕ → List ℕ
field_sentence place None told = place ++ codes ": there is no such field"
field_sentence place (Some field) told = place ++ (codes ": " ++ (quoted ROOM field ++ told))

-- a cell of one of the first columns; arguments are from field 2 on
abbrev pub cell_wanted : ℕ → ℕ → Wanted
cell_wanted count at = cond (nat_lt at 2) Nothing (cond (nat_lt (at - 2) count) (Cell (at - 2)) Nothing)

abbrev pub column_wanted : Option ℕ → Wanted
column_wanted None = Nothing
column_wanted (Some col) = Cell col

-- a cell of the column of this name
abbrev pub named_wanted : Columns → Option (List ℕ) → Wanted
named_wanted schema None = Nothing
named_wanted schema (Some name) = column_wanted (place_from 0 name schema.names)

-- behind the key, the column that is set, and then its cell
abbrev pub set_wanted : Columns → Fields → ℕ → Wanted
set_wanted schema fields at =
    cond (at == 2 + schema.key_cols) Name
    (cond (at == 3 + schema.key_cols) (named_wanted schema (field_at fields (2 + schema.key_cols))) (cell_wanted schema.key_cols at))

-- what a verb wants at a field
abbrev pub wanted_at : Columns → Verb → Fields → ℕ → Wanted
wanted_at schema verb.Insert fields at = cell_wanted (length schema.types) at
wanted_at schema verb.Delete fields at = cell_wanted schema.key_cols at
wanted_at schema verb.Get fields at = cell_wanted schema.key_cols at
wanted_at schema verb.Rank fields at = cell_wanted schema.key_cols at
wanted_at schema verb.Set fields at = set_wanted schema fields at
wanted_at schema verb.At fields at = Position
wanted_at schema verb.Scan fields at = Position
wanted_at schema other fields at = Nothing

-- what is wanted at a field, by the word for the verb
abbrev pub wanted_by_verb : Columns → Option Verb → Fields → ℕ → Wanted
wanted_by_verb schema None fields at = Nothing
wanted_by_verb schema (Some verb) fields at = wanted_at schema verb fields at

abbrev pub wanted_by_word : Columns → Option (List ℕ) → Fields → ℕ → Wanted
wanted_by_word schema None fields at = Nothing
wanted_by_word schema (Some word) fields at = wanted_by_verb schema (verb_of word) fields at

-- an argument that no verb takes there
abbrev pub other_argument : List ℕ → List ℕ → List ℕ
other_argument place argument = field_sentence place (Some argument) (codes " is not an argument that the verb takes")

-- an argument that is no cell of a column
abbrev pub column_argument : List ℕ → List ℕ → Option (List ℕ) → Option ColumnType → List ℕ
column_argument place argument (Some name) (Some type) = in_column place name ++ not_typed (Some type) argument
column_argument place argument (Some name) None = other_argument place argument
column_argument place argument None type = other_argument place argument

-- what is wrong with an argument where this is wanted
abbrev pub wanted_sentence : Columns → List ℕ → List ℕ → Wanted → List ℕ
wanted_sentence schema place argument (Cell col) =
    cond (nat_lt col (length schema.types)) (column_argument place argument (slice_get schema.names col) (slice_get schema.types col))
    (other_argument place argument)
wanted_sentence schema place argument Name = field_sentence place (Some argument) (codes " is not a column's name")
wanted_sentence schema place argument Position =
    field_sentence place (Some argument) (codes " is not a position: a whole number from 0 on is wanted")
wanted_sentence schema place argument Nothing = other_argument place argument

abbrev pub argument_sentence_of : Columns → List ℕ → Fields → ℕ → Option (List ℕ) → List ℕ
argument_sentence_of schema place fields at None = field_sentence place None (codes "")
argument_sentence_of schema place fields at (Some argument) =
    wanted_sentence schema place argument (wanted_by_word schema (field_at fields 1) fields at)

-- the sentence of the argument at a field: the column by its name, and what the record has there
abbrev pub argument_sentence : Columns → List ℕ → Fields → ℕ → List ℕ
argument_sentence schema place fields at = argument_sentence_of schema place fields at (field_at fields at)
