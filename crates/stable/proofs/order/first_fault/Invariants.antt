use Rattle.std.proofs.Common.{◌≡◌, None, drop}
use Rattle.std.specs.Prelude.{option_map}
use Rattle.stable.specs.Stable.{rows_fault}
use Rattle.stable.proofs.order.first_fault.Given as goal

-- the rows so far have no fault
abbrev pub invariant-loop-i : goal.invariant-loop-i
invariant-loop-i l =
    rows_fault l.schema 0 None l.rows ≡ rows_fault l.schema l.i (option_map (λ r. r.now) l.before) (drop l.i l.rows)
