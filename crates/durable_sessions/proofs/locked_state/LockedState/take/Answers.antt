use Rattle.std.proofs.Common.{arith}
use Rattle.durable_sessions.proofs.PayloadsLemmas.{payloads_count}
use Rattle.durable_sessions.proofs.locked_state.LockedState.take.Goals as goal

pub returns-clause-number : goal.returns-clause-number
returns-clause-number g c =
    let number = c.number-number.ensures in
    let count = payloads_count g.O.Opening.opened.manager g.O.DurableOpening.table c.published-to.result in
    let base = c.self.invariant.base_is in
    omega (arith, number, count, base)
