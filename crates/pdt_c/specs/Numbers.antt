-- The numbers of a column that C is handed, copied or where they lie.
use Rattle.std.specs.Prelude.{◌≡◌, ◌<◌, ◌≤◌, ℕ, ℤ, Bool, true, false, cond, Option, Some, None, List, [], ◌∷◌, ◌++◌, length, take, drop, slice_get}
use denote.RawPtr.{null_ptr}
use Rattle.values.specs.declared.value.Value.{Value}
use Rattle.values.specs.declared.value.ColumnType.{ColumnType}
use Rattle.values.specs.declared.value.ColumnType.TheVariants as column
use Rattle.model.specs.Table.{rows_of}
use Rattle.stable.specs.Rows.{column_values}
use Rattle.txn.specs.Txn.{Transaction, image_of}
use Rattle.pdt_c.specs.Cells.{numbers_of}
use Rattle.pdt_c.specs.Reads.{column_from}
use Rattle.pdt_c.specs.declared.calls.pieces.Piece.{Piece}

-- whether there is a column and it is one of numbers
abbrev pub is_int : Option ColumnType → Bool
is_int (Some column.Int) = true
is_int (Some column.Text) = false
is_int (Some column.Bool) = false
is_int None = false

abbrev pub has_numbers : Transaction → ℕ → Bool
has_numbers txn col = is_int (slice_get txn.schema.types col)

-- the values of a column between two positions
abbrev pub column_between : Transaction → ℕ → ℕ → ℕ → List Value
column_between txn col from to = column_values col (drop from (take to (rows_of (image_of txn))))

-- the numbers of a column from a position on; a column that isn't one of numbers has none
abbrev pub numbers_from : Transaction → ℕ → ℕ → List ℤ
numbers_from txn col from = cond (has_numbers txn col) (numbers_of (column_from txn col from)) []

-- and those between two positions
abbrev pub numbers_between : Transaction → ℕ → ℕ → ℕ → List ℤ
numbers_between txn col from to = cond (has_numbers txn col) (numbers_of (column_between txn col from to)) []

-- ---- pieces

-- a piece shows these numbers, and one at least: so many, or by value the one that there is
pub record IsShown (piece : Piece) (numbers : List ℤ) : Type 0 where
  pub some : 0 < length numbers
  pub counted : piece.count ≡ length numbers
  pub by_value : piece.at ≡ null_ptr → numbers ≡ piece.number ∷ []

-- pieces show these numbers, one after the other
abbrev pub AreShown : List Piece → List ℤ → Type 0
AreShown [] numbers = numbers ≡ []
AreShown (piece ∷ pieces) numbers = (own : List ℤ) × (rest : List ℤ) × (numbers ≡ own ++ rest) × IsShown piece own × AreShown pieces rest

-- pieces in C's room show the first of these numbers, so many as there are rows: all of them, where there was room
pub record HandsPieces (numbers : List ℤ) (room count : ℕ) (pieces : List Piece) (rows : ℕ) : Type 0 where
  pub within : count ≤ room
  pub rows_within : rows ≤ length numbers
  pub shown : AreShown (take count pieces) (take rows numbers)
  pub all : count < room → rows ≡ length numbers
