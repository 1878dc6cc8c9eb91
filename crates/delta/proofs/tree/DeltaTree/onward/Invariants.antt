use Rattle.std.proofs.Common.{◌≡◌, T, slice_get, take, drop, ◌+◌, ◌-◌, ◌≤◌, length}
use Rattle.std.specs.Option.{option_copied}
use Rattle.std.specs.List.{list_all}
use Rattle.delta.specs.Search.{stands_before}
use Rattle.delta.proofs.tree.DeltaTree.onward.Given as goal

-- the entries passed stand before what is looked for, and the others are ahead
abbrev pub invariant-loop-next : goal.invariant-loop-next
invariant-loop-next g l = record {
  within : l.index ≤ length l.fn.self.entries;
  next_is : option_copied l.next ≡ slice_get l.fn.self.entries l.index;
  rest_is : l.rest ≡ drop (l.index + 1) l.fn.self.entries;
  before : T (list_all (stands_before (g.P.Probe.stand l.fn.probe) l.fn.sid) (take l.index l.fn.self.entries));
}

abbrev pub decreases-loop-next : goal.decreases-loop-next
decreases-loop-next g l = length l.fn.self.entries - l.index
