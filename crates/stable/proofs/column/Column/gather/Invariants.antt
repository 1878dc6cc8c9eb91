use Rattle.std.proofs.Common.{◌≡◌, ◌*◌, take}
use Rattle.stable.specs.Rows.{gathered}
use Rattle.stable.proofs.column.Column.gather.Given as goal

-- the values at the places so far
abbrev pub invariant-loop-number : goal.invariant-loop-number
invariant-loop-number l = l.gathered ≡ gathered (take (1024 * l.number) l.places) l.fn.self
