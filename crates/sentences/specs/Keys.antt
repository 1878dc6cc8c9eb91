-- The key of a record, in a sentence.
use Rattle.std.specs.Prelude.{ℕ, suc, ◌++◌, ◌==◌, Bool, cond, Option, None, Some, List, [], ◌∷◌, codes}
use Rattle.values.specs.declared.value.ColumnType.{ColumnType}
use Rattle.values.specs.declared.value.ColumnType.TheVariants as column
use Rattle.inputs.specs.Reading.{Fields}
use Rattle.sentences.specs.Quoting.{label, quoted}
use Rattle.sentences.specs.Headings.{is_key_heading, kind_in, name_in}
use Rattle.sentences.specs.declared.quoting.TheConstants.{KEY_ROOM}

-- what is before a part of the key
abbrev pub before_part : ℕ → List ℕ
before_part at = cond (at == 0) (codes " ") (codes ", ")

-- a key cell: a text in quotes
abbrev pub key_value : Option (ColumnType × Bool) → List ℕ → List ℕ
key_value None cell = quoted KEY_ROOM cell
key_value (Some (column.Text, is_key)) cell = quoted KEY_ROOM cell
key_value (Some (column.Int, is_key)) cell = label KEY_ROOM cell
key_value (Some (column.Bool, is_key)) cell = label KEY_ROOM cell

-- a key column's name and its cell
abbrev pub key_part : ℕ → List ℕ → List ℕ → List ℕ
key_part at heading cell = before_part at ++ (label KEY_ROOM (name_in [] heading) ++ (codes "=" ++ key_value (kind_in heading) cell))

-- the parts of a key from one place on
abbrev pub key_parts : ℕ → Fields → Fields → List ℕ
key_parts at [] fields = []
key_parts at (heading ∷ header) [] = []
key_parts at (heading ∷ header) (cell ∷ fields) =
    cond (is_key_heading heading) (key_part at heading cell ++ key_parts (suc at) header fields) []

-- how many key columns the header names
abbrev pub key_count : Fields → ℕ
key_count [] = 0
key_count (heading ∷ header) = cond (is_key_heading heading) (suc (key_count header)) (key_count header)
