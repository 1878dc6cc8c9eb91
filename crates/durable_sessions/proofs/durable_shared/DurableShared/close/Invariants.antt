use Rattle.std.proofs.Common.{◌≡◌, ◌+◌, ◌≤◌, length, map, vec_capacity, vec_len}
use Rattle.std.specs.Prelude.{All}
use Rattle.durable_sessions.proofs.durable_shared.DurableShared.close.Given as goal

abbrev pub invariant-loop-client : goal.invariant-loop-client
invariant-loop-client g l = record {
  can : (goal.iterator-loop-client g).can_next l.client-iterator;
  finite : (goal.iterator-loop-client g).is_finite l.client-iterator;
  sessions : l.sessions.items ≡ map (λ c. c.session) l.yielded;
  len : vec_len l.sessions ≡ length l.yielded;
  room : g.O.Opening.clients ≤ vec_capacity l.sessions;
  safe : All (λ n. n ≤ g.O.JournalId.base + length l.group_log.written) (map (λ c. c.reader) l.yielded);
}
