-- A column's values in blocks.
use Rattle.std.specs.Prelude.{◌≡◌, ℕ, ℤ, ◌+◌, ◌-◌, ◌*◌, ◌/◌, List, length, take, drop, map, Bool, not, ◌&&◌, IsTrue}
use Rattle.std.specs.List.{flat_map, list_all, range_with_len}
use Rattle.std.specs.Ordering.{is_lt}
use Rattle.values.specs.Orders.{value_cmp}
use Rattle.values.specs.Shape.{has_type, is_too_long}
use Rattle.values.specs.declared.value.ColumnType.{ColumnType}
use Rattle.values.specs.declared.value.Value.{Value}
use Rattle.values.specs.declared.value.Value.TheVariants.{Int}
use Rattle.values.specs.declared.limits.TheConstants.{MAX_BLOCK_VALUES}
use Rattle.blocks.specs.Column.{Column}

-- the values of blocks, one block after the other
abbrev pub joined : List Column → List Value
joined blocks = flat_map (λ b. b.values) blocks

-- the block number `k` of values of a type
abbrev pub block_at : ColumnType → List Value → ℕ → Column
block_at ty values k = record { ty = ty; values = take MAX_BLOCK_VALUES (drop (MAX_BLOCK_VALUES * k) values) }

-- in how many blocks so many values stand
abbrev pub block_count : ℕ → ℕ
block_count count = (count + (MAX_BLOCK_VALUES - 1)) / MAX_BLOCK_VALUES

-- the first blocks of the values
abbrev pub first_blocks : ColumnType → List Value → ℕ → List Column
first_blocks ty values k = map (block_at ty values) (range_with_len 0 k)

-- all of the values, in blocks
abbrev pub all_blocks : ColumnType → List Value → List Column
all_blocks ty values = first_blocks ty values (block_count (length values))

-- whether the blocks are full but for the last, of the type, and hold so many values
pub record IsInBlocks (ty : ColumnType) (count : ℕ) (blocks : List Column) : Type 0 where
  pub counted : length (joined blocks) ≡ count
  pub cut : blocks ≡ first_blocks ty (joined blocks) (block_count count)

-- ---- what may stand in a column

-- whether a value is of the type, and no text of more than 4,096 bytes
abbrev pub may_stand : ColumnType → Value → Bool
may_stand ty v = has_type ty v && not (is_too_long v)

abbrev pub all_may_stand : ColumnType → List Value → Type 0
all_may_stand ty values = IsTrue (list_all (may_stand ty) values)

-- what each column keeps
pub record IsColumn (ty : ColumnType) (count : ℕ) (blocks : List Column) : Type 0 where
  pub blocked : IsInBlocks ty count blocks
  pub fit : all_may_stand ty (joined blocks)

-- ---- numbers

-- whether a value is below a number
abbrev pub is_below : ℤ → Value → Bool
is_below number v = is_lt (value_cmp v (Int number))
