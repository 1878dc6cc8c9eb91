use Rattle.std.proofs.Common.{false}
use Rattle.txn.proofs.CallerLemmas.{met_GoesOn}
use Rattle.pdt_c.proofs.MarkLemmas.{goes_on, told_GoesOn}
use Rattle.pdt_c.proofs.calls.writes.pdtr_insert.Goals as goal

pub invariant_of-behind-open : goal.invariant_of-behind-open
invariant_of-behind-open c =
    let inside = c.behind-open.inside in
    let new = c.insert-code.new.txn in
    goes_on inside.txn new inside.marks.items c.behind-open.invariant
    (told_GoesOn c.insert-code.result inside.txn new
    (λ fits had. let told = (c.insert-code.ensures.told fits had).told in met_GoesOn false inside.txn new _ told.reply told.answered)
    c.insert-code.ensures.refused)
