use Rattle.durable_sessions.proofs.QueuedLemmas.{queued_same}
use Rattle.durable_sessions.proofs.UpkeepLemmas.{after_fold}
use Rattle.durable_sessions.proofs.locked_state.LockedState.fold.Goals as goal

pub invariant_of-self : goal.invariant_of-self
invariant_of-self g c =
    let o = g.O.Opening.opened.manager in
    let list = c.self.inside.locked.list in
    let new = c.fold.new.self.list in
    queued_same o g.O.JournalId.base g.O.JournalId.seed g.O.DurableOpening.table c.self.inside.from list c.self.inside.queue c.self.invariant new
    (after_fold o list new _ c.fold.result c.fold.ensures.list)
