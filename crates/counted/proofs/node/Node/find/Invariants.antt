use Rattle.std.proofs.Common.{◌≡◌, ◌+◌}
use Rattle.std.specs.Prelude.{ℤ, IsSome}
use Rattle.counted.specs.Descents.{AreBelow}
use Rattle.counted.specs.Search.{is_before, MayMeet}
use Rattle.counted.proofs.Descents.{IsBetween}
use Rattle.counted.proofs.node.Node.find.Given as goal

-- the place lies among the entries below the node, at their end, or before them where no others stand before them
abbrev pub invariant-loop-entries : goal.invariant-loop-entries
invariant-loop-entries g l = record {
  below : AreBelow l.self.items l.above.index l.above.shift l.node.items l.above.next;
  between : IsBetween (is_before (g.P.Probe.stand l.probe) l.target) l.self.items l.above.index l.above.shift l.node.items;
  met : MayMeet l.target l.node.items;
  steps : ((weight : ℤ) → IsSome (g.P.Probe.by_weight l.probe weight)) → l.steps + l.node.depth ≡ l.fn.steps + l.self.depth;
}

abbrev pub decreases-loop-entries : goal.decreases-loop-entries
decreases-loop-entries g l = l.node.depth
