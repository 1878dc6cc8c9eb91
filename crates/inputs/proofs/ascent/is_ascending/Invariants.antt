use Rattle.std.proofs.Common.{◌≡◌, ◌+◌, ◌<◌, ℕ, Less}
use Rattle.values.specs.Orders.{key_cmp}
use Rattle.values.specs.Shape.{key_of}
use Rattle.stable.specs.Rows.{row_at}
use Rattle.inputs.proofs.ascent.is_ascending.Given as goal

-- the rows so far ascend
abbrev pub invariant-loop-i : goal.invariant-loop-i
invariant-loop-i l =
    (k : ℕ) → k + 1 < l.i → key_cmp (key_of l.key_cols (row_at l.columns k)) (key_of l.key_cols (row_at l.columns (k + 1))) ≡ Less
