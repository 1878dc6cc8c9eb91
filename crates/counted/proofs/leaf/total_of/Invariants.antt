use Rattle.std.proofs.Common.{◌≡◌, take}
use Rattle.counted.specs.Sums.{total}
use Rattle.counted.proofs.leaf.total_of.Given as goal

-- the sum of the entries so far
abbrev pub invariant-loop-entry : goal.invariant-loop-entry
invariant-loop-entry l = l.sum ≡ total (take l.entry-index l.entries)
