use denote.Param.{param}
use denote.Param.Send.{sendable}
use Rattle.std.proofs.Crossing.{crosses}
use Rattle.std.proofs.alloc.Global.TheSendSync as global
use Rattle.model.proofs.write.CommitReply.TheSendSync as reply
use Rattle.shared.proofs.Crossing.{session_send, shared_sync}
use Rattle.manager.proofs.Crossing.{history_send}
use Rattle.test_sessions.proofs.replays.run_all.Goals as goal

-- a session goes to a thread
pub map_vec-requires-send-J : goal.map_vec-requires-send-J
map_vec-requires-send-J g c κs within =
    let a = session_send (param 0 g.row.O) g.O.Opening g.O.Ledger in
    search (crosses, sendable) depth 40

-- and comes back with its replies and its histories
pub map_vec-requires-send-X : goal.map_vec-requires-send-X
map_vec-requires-send-X g c κs within =
    let a = session_send (param 0 g.row.O) g.O.Opening g.O.Ledger in
    let b = reply.the_send in
    let d = history_send in
    search (crosses, sendable) depth 40

-- what all share is lent to each thread
pub map_vec-requires-sync-F : goal.map_vec-requires-sync-F
map_vec-requires-sync-F g c κs within =
    let b = shared_sync (param 0 g.row.O) (param 1 g.row.S) g.O.Opening g.O.Ledger g.S.ImageStore c.type_bounds.send-S in
    let d = global.the_sync in
    search (c.type_bounds, crosses, sendable) depth 40
