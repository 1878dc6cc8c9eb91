use Rattle.std.proofs.Common.{◌≡◌, [], Some, Result, Ok, Err, ap, ◌∙◌, List, subst}
use mathlib.Core.List.{IsPrefix}
use Rattle.publishing.specs.declared.item.Item.{Item}
use Rattle.std.specs.Prelude.{IfSome, IsErrAnd, OnErr}
use Rattle.left_right.specs.Sides.{view}
use Rattle.publishing.specs.Lists.{Known, Opened, version_in}
use Rattle.publishing.specs.Views.{IsOf}
use Rattle.txn.specs.Txn.{transaction_at}
use Rattle.txn.specs.Version.{table_version}
use Rattle.shared.specs.Sessions.{Seat}
use Rattle.publishing.proofs.CallerLemmas.{prefix_self}
use Rattle.shared.proofs.SeatLemmas.{seat_begun, never_already, note_more}
use Rattle.shared.proofs.session.Session.begin.Goals as goal

on_any : {A E : Type 0} (P : Type 0) (r : Result A E) → P → OnErr r P
on_any P (Ok x) p = tt
on_any P (Err e) p = p

err_is : {A E : Type 0} (P : E → Type 0) (r : Result A E) (e : E) → r ≡ Err e → IsErrAnd r P → P e
err_is {A = A} {E = E} P r e is h = subst (λ (x : Result A E). IsErrAnd x P) is h

pub invariant_of-self-2 : goal.invariant_of-self-2
invariant_of-self-2 g c =
    let i = c.self.invariant in
    let s = c.self.inside in
    let o = g.O.Opening.opened in
    let seen = c.newest_seen.new.list in
    let again = c.again-seen.ensures in
    let own = ap (λ (k : Known). k.opening) again ∙ i.1 in
    let opening = c.newest_seen.ensures.opening ∙ own in
    let p = subst (λ (l : List Item). IsPrefix l seen.list) (ap (λ (k : Known). k.list) again) c.newest_seen.ensures.seen in
    let version = c.in_ok-version.ensures.version ∙ ap (λ k. version_in k.manager seen.list) opening in
    let now = c.put.ensures ∙ ap Some c.in_ok-txn.ensures in (
      i.0,
      opening,
      seat_begun o.manager seen.list (table_version c.in_ok-version.version) s.row_limit s.client c.put.new.place version i.5.0 now,
      note_more o s.list.list seen.list s.note p i.3,
      subst (λ (k : Opened). IfSome c.newest_seen.new.place (λ r. IsOf k (view r.place))) own c.newest_seen.ensures.reader,
      i.5,
    )

pub returns-clause-ok : goal.returns-clause-ok
returns-clause-ok g c =
    let i = c.self.invariant in
    let seen = c.newest_seen.new.list in
    let own = ap (λ (k : Known). k.opening) c.again-seen.ensures ∙ i.1 in
    let opening = c.newest_seen.ensures.opening ∙ own in
    let version = c.in_ok-version.ensures.version ∙ ap (λ k. version_in k.manager seen.list) opening in
    let client = ap (λ (s : Seat). s.client) c.self.view_is in
    c.put.ensures ∙ ap Some c.in_ok-txn.ensures ∙ (λ j. Some (transaction_at (version j) (i.5.0 j) (client j) []))

pub returns-clause-seen : goal.returns-clause-seen
returns-clause-seen g c =
    let seen = c.newest_seen.new.list.list in
    let was = ap (λ (k : Known). k.list) c.again-seen.ensures ∙ ap (λ (s : Seat). s.seen) c.self.view_is in
    subst (λ (l : List Item). IsPrefix l seen) was c.newest_seen.ensures.seen

pub returns-clause-same : goal.returns-clause-same
returns-clause-same g c =
    let is = c.self.view_is in
    (ap (λ (s : Seat). s.client) is, ap (λ (s : Seat). s.count) is, ap (λ (s : Seat). s.note) is)

pub returns-in_err-version-clause-seen : goal.returns-in_err-version-clause-seen
returns-in_err-version-clause-seen g c =
    let list = c.self.inside.list.list in
    subst (λ (l : List Item). IsPrefix l list) (ap (λ (s : Seat). s.seen) c.self.view_is) (prefix_self list)

pub returns-in_err-version-clause-once : goal.returns-in_err-version-clause-once
returns-in_err-version-clause-once g c = λ is. absurd (never_already _ (err_is _ _ _ is c.from_residual.ensures.1))

pub returns-in_err-version-clause-err : goal.returns-in_err-version-clause-err
returns-in_err-version-clause-err g c = on_any _ _ c.self.view_is

pub returns-in_err-version-clause-same : goal.returns-in_err-version-clause-same
returns-in_err-version-clause-same g c =
    let is = c.self.view_is in
    (ap (λ (s : Seat). s.client) is, ap (λ (s : Seat). s.count) is, ap (λ (s : Seat). s.note) is)

pub returns-in_err-txn-clause-seen : goal.returns-in_err-txn-clause-seen
returns-in_err-txn-clause-seen g c =
    let list = c.self.inside.list.list in
    subst (λ (l : List Item). IsPrefix l list) (ap (λ (s : Seat). s.seen) c.self.view_is) (prefix_self list)

pub returns-in_err-txn-clause-err : goal.returns-in_err-txn-clause-err
returns-in_err-txn-clause-err g c = on_any _ _ c.self.view_is

pub returns-in_err-txn-clause-same : goal.returns-in_err-txn-clause-same
returns-in_err-txn-clause-same g c =
    let is = c.self.view_is in
    (ap (λ (s : Seat). s.client) is, ap (λ (s : Seat). s.count) is, ap (λ (s : Seat). s.note) is)
