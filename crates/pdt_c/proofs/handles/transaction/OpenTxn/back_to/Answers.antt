use Rattle.std.proofs.Common.{◌≡◌, ℕ, suc, ◌+◌, ◌<◌, List, take, length, Some, get_or, refl, sym, ap, ◌∙◌, subst, arith}
use Rattle.std.specs.Prelude.{slice_get}
use Rattle.std.proofs.lemmas.Option.{slice_get_read}
use Rattle.txn.specs.Txn.{Transaction}
use Rattle.txn.specs.Marks.{Marked}
use Rattle.pdt_c.specs.Marks.{Opened, AreMarks, GoesBack}
use Rattle.pdt_c.proofs.MarkLemmas.{gone_back, stands}
use Rattle.pdt_c.proofs.handles.transaction.OpenTxn.back_to.Goals as goal

-- the mark of the level is the one that is copied
found : (marks lent : List Marked) (level : ℕ) (mark copied : Marked) → lent ≡ marks → level < length lent
    → mark ≡ get_or lent level mark → copied ≡ mark → slice_get marks level ≡ Some copied
found marks lent level mark copied same within is copy =
    subst (λ (xs : List Marked). slice_get xs level ≡ Some copied) same
    (slice_get_read lent (length lent) level mark refl within is ∙ ap Some (sym copy))

pub back_to-requires : goal.back_to-requires
back_to-requires c =
    let inside = c.self.inside in
    let at = c.in-Some.ensures.lookup in
    let is =
    found inside.marks.items c.deref.result.now c.args.level c.in-Some.mark.now c.in-Ok.mark c.deref.ensures.value at.3.0 at.1
    c.in-Ok.ensures in
    stands inside.txn inside.marks.items c.args.level c.in-Ok.mark c.self.invariant is

pub invariant_of-self : goal.invariant_of-self
invariant_of-self c =
    let inside = c.self.inside in
    let level = c.args.level in
    let at = c.in-Some.ensures.lookup in
    let is =
    found inside.marks.items c.deref.result.now level c.in-Some.mark.now c.in-Ok.mark c.deref.ensures.value at.3.0 at.1
    c.in-Ok.ensures in
    let next : level + 1 ≡ suc level = omega arith in
    let kept : c.truncate.new.self.items ≡ take (suc level) inside.marks.items =
    c.truncate.ensures.items ∙ ap (λ n. take n inside.marks.items) next in
    subst (λ (e : Transaction × List Marked). AreMarks e.0 e.1) (sym (λ i. (c.back_to.ensures i, kept i)))
    (gone_back inside.txn c.in-Ok.mark inside.marks.items level c.self.invariant is)

pub returns-clause-done : goal.returns-clause-done
returns-clause-done c = λ done.
    let inside = c.self.inside in
    let level = c.args.level in
    let at = c.in-Some.ensures.lookup in
    let is =
    found inside.marks.items c.deref.result.now level c.in-Some.mark.now c.in-Ok.mark c.deref.ensures.value at.3.0 at.1
    c.in-Ok.ensures in
    let next : level + 1 ≡ suc level = omega arith in
    let kept : c.truncate.new.self.items ≡ take (suc level) inside.marks.items =
    c.truncate.ensures.items ∙ ap (λ n. take n inside.marks.items) next in
    let new : Opened = record { txn = c.back_to.new.self; marks = c.truncate.new.self.items } in
    subst (λ (old : Opened). GoesBack level old new) c.self.view_is
    (record { mark = c.in-Ok.mark; mark_is = is; new_is = λ i. record { txn = c.back_to.ensures i; marks = kept i } })
