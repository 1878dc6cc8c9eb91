use Rattle.std.proofs.Common.{◌≡◌, List, take}
use Rattle.pdtcli.specs.declared.reply.ReplyLine.{ReplyLine}
use Rattle.journaled_clients.specs.Clients.{HasMadeDurably}
use Rattle.journaled_clients.proofs.client.run_client.Given as goal

-- the client's calls so far are made
abbrev pub invariant-loop-asked : goal.invariant-loop-asked
invariant-loop-asked g l = record {
  made :
      (lines : List ReplyLine)
      × HasMadeDurably g.O.Opening.opened.manager l.fn.client.session (take l.asked-index l.calls) lines l.client.session;
  client : l.client.session.client ≡ l.fn.client.session.client;
}
