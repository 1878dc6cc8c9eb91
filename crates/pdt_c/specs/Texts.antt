-- The texts of a column that C is handed where they lie.
use Rattle.std.specs.Prelude.{ℕ, ℤ, Bool, true, false, cond, Option, Some, None, List, [], slice_get}
use Rattle.std.specs.List.{AllWithin}
use denote.RawPtr.{Ptr, InBlock}
use Rattle.values.specs.declared.value.ColumnType.{ColumnType}
use Rattle.values.specs.declared.value.ColumnType.TheVariants as column
use Rattle.txn.specs.Txn.{Transaction}
use Rattle.pdt_c.specs.Cells.{numbers_of}
use Rattle.pdt_c.specs.Reads.{column_from}

-- whether there is a column and it is one of texts
abbrev pub is_text : Option ColumnType → Bool
is_text (Some column.Int) = false
is_text (Some column.Text) = true
is_text (Some column.Bool) = false
is_text None = false

abbrev pub has_texts : Transaction → ℕ → Bool
has_texts txn col = is_text (slice_get txn.schema.types col)

-- how many bytes each text of a column from a position on has; a column that isn't one of texts has none
abbrev pub lengths_from : Transaction → ℕ → ℕ → List ℤ
lengths_from txn col from = cond (has_texts txn col) (numbers_of (column_from txn col from)) []

-- so many texts lie somewhere: none is at null
abbrev pub AreThere : ℕ → List Ptr → Type 0
AreThere count texts = AllWithin InBlock texts 0 count
