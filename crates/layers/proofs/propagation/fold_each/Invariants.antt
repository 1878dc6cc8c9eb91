use Rattle.std.proofs.Common.{◌≡◌, Some, map, take, length}
use Rattle.std.specs.Option.{option_copied}
use Rattle.layers.specs.Over.{AreConsecutive}
use Rattle.layers.proofs.RestLemmas.{tree_from}
use Rattle.layers.proofs.propagation.fold_each.Given as goal

-- so many of the first entries are left, and those after them are folded in
abbrev pub invariant-loop-last : goal.invariant-loop-last
invariant-loop-last l = record {
  uppers : map option_copied l.uppers.items ≡ map (λ e. Some e) (take (length l.uppers.items) l.upper.entries);
  folded : (w : AreConsecutive l.lower l.upper) → l.tree ≡ tree_from l.lower l.upper w (length l.uppers.items);
}

abbrev pub decreases-loop-last : goal.decreases-loop-last
decreases-loop-last l = length l.uppers.items
