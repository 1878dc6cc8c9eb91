use denote.Param.{param}
use denote.Param.Send.{sendable}
use Rattle.std.proofs.Crossing.{crosses}
use Rattle.std.proofs.alloc.Global.TheSendSync as global
use Rattle.durable_sessions.proofs.Crossing.{durable_session_send, durable_shared_sync}
use Rattle.test_sessions.proofs.acknowledged.shared_syncs.threads_insert.Goals as goal

-- a durable session goes to a thread
pub map_vec-requires-send-J : goal.map_vec-requires-send-J
map_vec-requires-send-J g c κs within =
    let a = durable_session_send (param 0 g.row.O) g.O.Opening g.O.Ledger g.O.WatermarkId in
    search (crosses, sendable) depth 40

-- what they share is lent to each thread
pub map_vec-requires-sync-F : goal.map_vec-requires-sync-F
map_vec-requires-sync-F g c κs within =
    let b = durable_shared_sync (param 0 g.row.O) g.O.DurableOpening g.O.Opening g.O.Ledger g.O.JournalId g.O.WatermarkId (param 1 g.row.S)
    (param 2 g.row.D) g.S.ImageStore g.D.JournalDevice c.type_bounds.send-S c.type_bounds.send-D in
    let d = global.the_sync in
    search (c.type_bounds, crosses, sendable) depth 40
