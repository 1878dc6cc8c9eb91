use Rattle.std.proofs.Common.{◌≡◌, ◌≤◌, length, map, vec_capacity, vec_len}
use Rattle.std.specs.List.{All}
use Rattle.durable_sessions.proofs.durable_shared.clients_of.Given as goal

abbrev pub invariant-loop-session : goal.invariant-loop-session
invariant-loop-session g l = record {
  can : (goal.iterator-loop-session g).can_next l.session-iterator;
  finite : (goal.iterator-loop-session g).is_finite l.session-iterator;
  sessions : map (λ c. c.session) l.clients.items ≡ l.yielded;
  len : vec_len l.clients ≡ length l.yielded;
  room : vec_len l.fn.sessions ≤ vec_capacity l.clients;
  log : l.group_log ≡ l.fn.group_log;
  readers : All (λ c. c.reader ≡ l.fn.group_log.watermark) l.clients.items;
}
