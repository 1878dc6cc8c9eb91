-- Columns that grow one by one.
use Rattle.std.proofs.Common.{◌≡◌, ℕ, zero, suc, ◌+◌, ◌<◌, ◌≤◌, List, [], ◌∷◌, ◌++◌, length, map, take, drop, get_or, set, refl}
use Rattle.std.proofs.Common.{ap, arith}
use Rattle.std.specs.List.{range_with_len}
use Rattle.std.proofs.lemmas.List.{map-append}
use Rattle.values.specs.declared.row.Row.{Row}
use Rattle.values.specs.declared.value.ColumnType.{ColumnType}
use Rattle.blocks.specs.Column.{Column}
use Rattle.stable.specs.Rows.{column_at, column_values}
use Rattle.merge.specs.Columns.{grown}
use Rattle.std.proofs.lemmas.Grind.{common_steps}

-- a column with the values of more rows
abbrev pub with_rows : ℕ → List Row → Column → Column
with_rows n rows c = record { ty = c.ty; values = c.values ++ column_values n rows }

-- the first columns have grown, and the others not yet
abbrev pub grown_to : ℕ → ℕ → List Column → List Row → List Column
grown_to n k cs rows = take k (grown n cs rows) ++ drop k cs

-- the column that comes next has not grown
pub get_or-grown_to : (n k : ℕ) (cs : List Column) (rows : List Row) (d : Column) → get_or (grown_to n k cs rows) k d ≡ get_or cs k d
get_or-grown_to n zero cs rows d = refl
get_or-grown_to n (suc k) [] rows d = refl
get_or-grown_to n (suc k) (c ∷ cs) rows d = get_or-grown_to (n + 1) k cs rows d

pub set-grown_to : (n k j : ℕ) (cs : List Column) (rows : List Row) (d : Column) → k < length cs → j ≡ n + k
    → set (grown_to n k cs rows) k (with_rows j rows (get_or cs k d)) ≡ grown_to n (suc k) cs rows
set-grown_to n zero j [] rows d lt is = absurd (omega arith)
set-grown_to n zero j (c ∷ cs) rows d lt is =
    ap (λ m. with_rows m rows c ∷ cs) (let e : j ≡ n = omega arith in e)
set-grown_to n (suc k) j [] rows d lt is = absurd (omega arith)
set-grown_to n (suc k) j (c ∷ cs) rows d lt is =
    ap (λ rest. with_rows n rows c ∷ rest) (set-grown_to (n + 1) k j cs rows d (omega arith) (omega arith))

pub grown_to-end : (n k : ℕ) (cs : List Column) (rows : List Row) → length cs ≤ k → grown_to n k cs rows ≡ grown n cs rows
grown_to-end n zero [] rows le = refl
grown_to-end n zero (c ∷ cs) rows le = absurd (omega arith)
grown_to-end n (suc k) [] rows le = refl
grown_to-end n (suc k) (c ∷ cs) rows le = ap (λ rest. with_rows n rows c ∷ rest) (grown_to-end (n + 1) k cs rows (omega arith))

-- columns of rows that grow by more rows are those of all
pub grown-columns : (types : List ColumnType) (rows more : List Row) (n k : ℕ)
    → grown n (map (column_at types rows) (range_with_len n k)) more ≡ map (column_at types (rows ++ more)) (range_with_len n k)
grown-columns types rows more n zero = refl
grown-columns types rows more n (suc k) = grind (arith, common_steps, grown-columns types rows more (n + 1) k, map-append)
