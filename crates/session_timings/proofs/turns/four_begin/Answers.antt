use denote.Param.{param}
use denote.Param.Send.{sendable}
use Rattle.std.proofs.Crossing.{crosses}
use Rattle.shared.proofs.Crossing.{session_send}
use Rattle.session_timings.proofs.turns.four_begin.Goals as goal

-- sessions go to another thread
pub join-two-requires-send-F : goal.join-two-requires-send-F
join-two-requires-send-F g c κs within =
    let a = session_send (param 0 g.row.O) g.O.Opening g.O.Ledger in
    search (crosses, sendable) depth 40
