-- The bytes of types and formats.
use Rattle.std.specs.Prelude.{ℕ}
use Rattle.values.specs.declared.value.ColumnType.{ColumnType}
use Rattle.values.specs.declared.value.ColumnType.TheVariants as column
use Rattle.frames.specs.declared.frame.Format.{Format}
use Rattle.frames.specs.declared.frame.Format.TheVariants.{First, Second}

-- the byte of a type
abbrev pub type_byte : ColumnType → ℕ
type_byte column.Int = 1
type_byte column.Text = 2
type_byte column.Bool = 3

-- the version byte of a format
abbrev pub version_byte : Format → ℕ
version_byte First = 1
version_byte Second = 2
