use Rattle.std.proofs.Common.{◌≡◌, ◌+◌, ◌≤◌, Some, map, vec_capacity, vec_len}
use Rattle.std.specs.List.{range_with_len}
use Rattle.left_right.specs.Sides.{view}
use Rattle.shared.specs.Sessions.{new_seat}
use Rattle.shared.proofs.shared.sessions_of.Given as goal

abbrev pub invariant-loop-client : goal.invariant-loop-client
invariant-loop-client g l = record {
  parts : l.rest.parts + l.client ≡ l.clients;
  amount : l.rest.amount ≡ 0;
  sessions : l.sessions.items ≡ map new_seat (range_with_len 0 l.client);
  len : vec_len l.sessions ≡ l.client;
  room : l.clients ≤ vec_capacity l.sessions;
  view : view l.writer.desk.place ≡ Some l.list;
  shown : l.writer.desk.shown ≡ l.fn.writer.desk.shown;
}
