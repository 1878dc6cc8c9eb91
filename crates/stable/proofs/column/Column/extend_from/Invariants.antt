use Rattle.std.proofs.Common.{◌≡◌, ◌≤◌, ◌++◌, ◌-◌, take, drop}
use Rattle.stable.proofs.column.Column.extend_from.Given as goal

-- the values so far
abbrev pub invariant-loop-moved : goal.invariant-loop-moved
invariant-loop-moved l = record {
  some : l.moved ≤ l.count;
  shows : l.self ≡ record { ty = l.fn.self.ty; values = l.fn.self.values ++ take l.moved (drop l.from l.other.values) };
}

-- the values that are left
abbrev pub decreases-loop-moved : goal.decreases-loop-moved
decreases-loop-moved l = l.count - l.moved
