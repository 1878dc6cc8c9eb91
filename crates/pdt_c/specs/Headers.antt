-- The header of a table's columns.
use Rattle.std.specs.Prelude.{◌≡◌, ◌<◌, ℕ, false, List, [], length, get_or}
use Rattle.values.specs.Shape.{Columns}
use Rattle.inputs.specs.Input.{IsTableOf}
use Rattle.headers.specs.Spelling.{header_text, is_name}

-- bytes are the header of columns, and what is read of them as a table is these, without a row
pub record IsHeaderOf (schema : Columns) (bytes : List ℕ) : Type 0 where
  pub spelt : bytes ≡ header_text schema
  pub read : IsTableOf bytes schema []

-- a column has a name that no header says
abbrev pub HasOtherName : Columns → Type 0
HasOtherName schema = (col : ℕ) × (col < length schema.names) × (is_name (get_or schema.names col []) ≡ false)
