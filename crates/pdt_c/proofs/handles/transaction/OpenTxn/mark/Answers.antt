use Rattle.std.proofs.Common.{◌≡◌, List, ◌∷◌, ◌++◌, [], sym, ◌∙◌, subst}
use Rattle.txn.specs.Marks.{Marked, mark_of}
use Rattle.pdt_c.specs.Marks.{AreMarks}
use Rattle.pdt_c.proofs.MarkLemmas.{marked}
use Rattle.pdt_c.proofs.handles.transaction.OpenTxn.mark.Goals as goal

pub invariant_of-self-2 : goal.invariant_of-self-2
invariant_of-self-2 c =
    let inside = c.self.inside in
    let items : c.push_reserved.new.self.items ≡ inside.marks.items ++ mark_of inside.txn ∷ [] =
    c.push_reserved.ensures.items ∙ (λ i. (c.in_ok-try_reserve.ensures.items i) ++ (c.in_ok-mark.ensures i) ∷ []) in
    subst (λ (marks : List Marked). AreMarks inside.txn marks) (sym items) (marked inside.txn inside.marks.items c.self.invariant)
