use Rattle.std.proofs.Common.{◌≡◌, ◌≢◌, ℕ, ◌<◌, List, length, get_or}
use Rattle.std.specs.Prelude.{slice_get}
use Rattle.values.specs.declared.row.Row.{Row}
use Rattle.merge.specs.View.{row_over, source_over}
use Rattle.pdt_c.proofs.calls.stretches.put_own.Given as goal

-- the bytes so far tell of their columns
abbrev pub invariant-loop-col : goal.invariant-loop-col
invariant-loop-col l =
    (length l.own ≡ length l.fn.own)
    × ((base : List Row) → (j : ℕ) → j < l.col → get_or l.own j 1 ≡ 0
    → slice_get (row_over base l.view) j ≡ slice_get (source_over base l.view.source) j)
    × ((base other : List Row) → length (row_over base l.view) ≡ length (row_over other l.view) → (j : ℕ) → j < l.col
    → get_or l.own j 0 ≢ 0 → slice_get (row_over base l.view) j ≡ slice_get (row_over other l.view) j)
