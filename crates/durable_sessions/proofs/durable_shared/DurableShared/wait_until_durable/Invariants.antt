use Rattle.std.proofs.Common.{◌≤◌}
use Rattle.durable_sessions.proofs.durable_shared.DurableShared.wait_until_durable.Given as goal

abbrev pub invariant-loop : goal.invariant-loop
invariant-loop g l = record {
  can : (goal.iterator-loop g).can_next l.iterator';
  finite : (goal.iterator-loop g).is_finite l.iterator';
  later : l.fn.reader ≤ l.reader;
}
