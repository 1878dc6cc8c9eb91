use denote.Param.{param}
use denote.Param.Send.{sendable}
use Rattle.std.proofs.Crossing.{crosses}
use Rattle.values.proofs.row.Row.TheSendSync as row
use Rattle.shared.proofs.Crossing.{session_send}
use Rattle.test_sessions.proofs.threads.one_works.Goals as goal

-- a session and its rows go to another thread
pub join-one-requires-send-F : goal.join-one-requires-send-F
join-one-requires-send-F g c κs within =
    let a = session_send (param 0 g.row.O) g.O.Opening g.O.Ledger in
    let b = row.the_send in
    search (crosses, sendable) depth 40
