use denote.Param.{param}
use denote.Param.Send.{sendable}
use Rattle.std.proofs.Crossing.{crosses}
use Rattle.inputs.proofs.call.ClientCall.TheSendSync as asked
use Rattle.shared.proofs.Crossing.{session_send, shared_sync}
use Rattle.pdtcli.proofs.reply.ReplyLine.TheSendSync as line
use Rattle.pdtcli.proofs.clients.Clients.spawn.Goals as goal

-- a session and its lines go to the thread, and what all share is lent to it
pub spawn_with-requires-send-F : goal.spawn_with-requires-send-F
spawn_with-requires-send-F g c κs within =
    let a = session_send (param 0 g.row.O) g.O.Opening g.O.Ledger in
    let b = shared_sync (param 0 g.row.O) (param 1 g.row.S) g.O.Opening g.O.Ledger g.S.ImageStore c.type_bounds.send-S in
    let d = line.the_send in
    let e = asked.the_sync in
    search (c.type_bounds, crosses, sendable) depth 40

-- and they come back
pub spawn_with-requires-send-T : goal.spawn_with-requires-send-T
spawn_with-requires-send-T g c κs within =
    let a = session_send (param 0 g.row.O) g.O.Opening g.O.Ledger in
    let d = line.the_send in
    search (crosses, sendable) depth 40
