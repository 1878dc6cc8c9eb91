-- Places in blocks of 1,024 values: which value stands at a place.
use Rattle.std.specs.Prelude.{ℕ, ◌<◌, ◌/◌, ◌%◌, false, List, [], length, slice_index_or, IsTrue, IsFalse}
use Rattle.values.specs.Shape.{has_type, is_too_long}
use Rattle.values.specs.declared.limits.TheConstants.{MAX_BLOCK_VALUES}
use Rattle.values.specs.declared.value.ColumnType.{ColumnType}
use Rattle.values.specs.declared.value.ColumnType.TheVariants as column
use Rattle.values.specs.declared.value.Value.{Value}
use Rattle.values.specs.declared.value.Value.TheVariants.{Bool as Truth}
use Rattle.blocks.specs.Column.{Column}

-- the block that has a place
abbrev pub block_of : List Column → ℕ → Column
block_of blocks place = slice_index_or blocks (place / MAX_BLOCK_VALUES) (record { ty = column.Bool; values = [] })

-- the value at a place; past the last there is none, and it says false
abbrev pub value_at : List Column → ℕ → Value
value_at blocks place = slice_index_or (block_of blocks place).values (place % MAX_BLOCK_VALUES) (Truth false)

-- whether blocks have a value at a place, which may stand in a block of the type
pub record IsPlaceOf (ty : ColumnType) (blocks : List Column) (place : ℕ) : Type 0 where
  pub there : place / MAX_BLOCK_VALUES < length blocks
  pub within : place % MAX_BLOCK_VALUES < length (block_of blocks place).values
  pub typed : IsTrue (has_type ty (value_at blocks place))
  pub short : IsFalse (is_too_long (value_at blocks place))
