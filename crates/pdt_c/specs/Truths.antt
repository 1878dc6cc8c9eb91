-- The truths of a column that C is handed, a byte for each.
use Rattle.std.specs.Prelude.{◌≡◌, ◌+◌, ◌<◌, ◌≤◌, length, take, drop, ℕ, Bool, true, false, cond, Option, Some, None, List, [], map, slice_get}
use Rattle.values.specs.declared.value.ColumnType.{ColumnType}
use Rattle.values.specs.declared.value.ColumnType.TheVariants as column
use Rattle.values.specs.declared.value.Value.{Value}
use Rattle.values.specs.declared.value.Value.TheVariants.{Int, Text, Bool as Truth}
use Rattle.merge.specs.declared.run.TruthRun.{TruthRun}
use Rattle.txn.specs.Txn.{Transaction}
use Rattle.pdt_c.specs.Reads.{column_from}

-- whether there is a column and it is one of truths
abbrev pub is_truth : Option ColumnType → Bool
is_truth (Some column.Int) = false
is_truth (Some column.Text) = false
is_truth (Some column.Bool) = true
is_truth None = false

abbrev pub has_truths : Transaction → ℕ → Bool
has_truths txn col = is_truth (slice_get txn.schema.types col)

-- a truth's byte
abbrev pub byte_of : Value → ℕ
byte_of (Int n) = 0
byte_of (Text t) = 0
byte_of (Truth true) = 1
byte_of (Truth false) = 0

abbrev pub truths_of : List Value → List ℕ
truths_of cells = map byte_of cells

-- the truths of a column from a position on; a column that isn't one of truths has none
abbrev pub truths_from : Transaction → ℕ → ℕ → List ℕ
truths_from txn col from = cond (has_truths txn col) (truths_of (column_from txn col from)) []

-- these truths of a block are the first of a column's cells, at most so many
pub record LieTogether (run : TruthRun) (most : ℕ) (cells : List Value) : Type 0 where
  pub some : 0 < run.count
  pub few : run.count ≤ most
  pub within : run.first + run.count ≤ length run.truths.now
  pub same : take run.count cells ≡ map Truth (take run.count (drop run.first run.truths.now))
