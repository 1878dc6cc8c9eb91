use Rattle.std.proofs.Common.{◌≡◌, ◌≤◌, length, take, vec_capacity}
use Rattle.std.specs.Prelude.{vec_len}
use Rattle.pdtcli.specs.Clients.{HasMade, calls_of}
use Rattle.pdtcli.proofs.client.run_client.Given as goal

-- the client's calls so far are made, each has its line, and there is room for those of all
abbrev pub invariant-loop-asked : goal.invariant-loop-asked
invariant-loop-asked g l = record {
  made : HasMade g.O.Opening.opened.manager l.fn.session (take l.asked-index l.calls) l.lines.items l.session;
  client : l.session.client ≡ l.fn.session.client;
  number : l.number ≡ length (calls_of l.fn.session.client (take l.asked-index l.calls));
  lines : vec_len l.lines ≡ l.number;
  room : length (calls_of l.fn.session.client l.calls) ≤ vec_capacity l.lines;
}
