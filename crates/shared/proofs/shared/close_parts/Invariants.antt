use Rattle.std.proofs.Common.{◌≡◌, ◌≤◌, length, map, vec_capacity}
use Rattle.std.specs.Prelude.{sum, All}
use Rattle.shared.specs.Endings.{AreOfOneList}
use Rattle.shared.proofs.shared.close_parts.Given as goal

abbrev pub invariant-loop-session : goal.invariant-loop-session
invariant-loop-session g l = record {
  can : (goal.iterator-loop-session g).can_next l.session-iterator;
  finite : (goal.iterator-loop-session g).is_finite l.session-iterator;
  parts : l.all.parts ≡ length l.yielded;
  amount : l.all.amount ≡ sum l.counts.items;
  counts : l.counts.items ≡ map (λ s. s.count) l.yielded;
  room : g.O.Opening.clients ≤ vec_capacity l.counts;
  seen : All (λ s. AreOfOneList s.seen l.list.list) l.yielded;
}
