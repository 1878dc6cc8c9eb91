use Rattle.std.proofs.Common.{List, sym, subst}
use Rattle.txn.specs.Marks.{Marked}
use Rattle.pdt_c.specs.Marks.{AreMarks}
use Rattle.pdt_c.proofs.MarkLemmas.{first_marks}
use Rattle.pdt_c.proofs.handles.transaction.OpenTxn.release.Goals as goal

pub invariant_of-self : goal.invariant_of-self
invariant_of-self c =
    let inside = c.self.inside in
    subst (λ (marks : List Marked). AreMarks inside.txn marks) (sym c.truncate.ensures.items)
    (first_marks inside.txn inside.marks.items c.args.level c.self.invariant)
