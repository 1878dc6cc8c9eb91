use Rattle.std.proofs.Common.{◌≡◌, ℕ, suc, ◌+◌, List, [], ◌∷◌, ◌++◌, ap, sym, ◌∙◌, subst, arith}
use Rattle.circular_buffer.specs.Buffer.{Buffer, keep_last}
use Rattle.model.specs.History.{Record, IsLegal}
use Rattle.delta.specs.Tree.{Tree}
use Rattle.txn.specs.Txn.{Transaction}
use Rattle.txn.specs.Version.{Lower, LayeredVersion}
use Rattle.manager.specs.History.{Recorded}
use Rattle.manager.specs.Managed.{Managed, managed_of, IsOwn, record_of}
use Rattle.manager.specs.Kept.{HoldsNewest}
use Rattle.manager.specs.Prepared.{Prepared, Granted, IsPrepared}
use Rattle.manager.proofs.CommitLemmas.{legal_after, refused_after, granted_after}
use Rattle.manager.proofs.manager.Manager.install_into.Goals as goal

pub enter-entry-requires-clause-legal : goal.enter-entry-requires-clause-legal
enter-entry-requires-clause-legal c =
    let i = c.self.inside in
    let txn : Transaction = c.args.txn in
    let p : Prepared = record { reply = c.prepared.inside.reply; granted = c.prepared.inside.grant } in
    let own = subst (λ (w : Managed). IsOwn w txn) (sym c.self.view_is) c.requires.own in
    let told =
    subst (λ (e : Managed × Prepared). IsPrepared e.0 txn e.1) (sym (λ j. (c.self.view_is j, c.prepared.view_is j)))
    c.requires.prepared in
    subst (λ (rs : List Record). IsLegal i.history.schema i.history.start (i.history.records ++ rs)) (sym c.split-links.ensures.entry)
    (legal_after i.history i.made i.newest i.kept.items c.self.invariant.0 txn c.split-links.ensures.lawful own p told)

pub invariant_of-self : goal.invariant_of-self
invariant_of-self c =
    let i = c.self.inside in
    let txn : Transaction = c.args.txn in
    let p : Prepared = record { reply = c.prepared.inside.reply; granted = c.prepared.inside.grant } in
    let own = subst (λ (w : Managed). IsOwn w txn) (sym c.self.view_is) c.requires.own in
    let told =
    subst (λ (e : Managed × Prepared). IsPrepared e.0 txn e.1) (sym (λ j. (c.self.view_is j, c.prepared.view_is j)))
    c.requires.prepared in
    let holds = refused_after i.history i.made i.newest i.kept.items c.self.invariant.0 txn c.split-links.ensures.lawful own p told c.in_default.is in
    let history : c.enter-entry.new.self ≡ record i.history { records = i.history.records ++ record_of txn p.reply ∷ [] } =
    c.enter-entry.ensures.entered ∙ (λ j. record i.history { records = i.history.records ++ c.split-links.ensures.entry j }) in
    let made : i.made + 1 ≡ suc i.made = omega arith in
    let P = λ (e : Recorded × ℕ). HoldsNewest (managed_of e.0 e.1 i.newest.layers) i.newest.layers i.newest i.kept.items in
    (subst P (sym (λ j. (history j, made j))) holds, c.self.invariant.1 ∙ sym (ap (λ (h : Recorded). h.start.recent) history))

pub invariant_of-self-2 : goal.invariant_of-self-2
invariant_of-self-2 c =
    let i = c.self.inside in
    let txn : Transaction = c.args.txn in
    let p : Prepared = record { reply = c.prepared.inside.reply; granted = c.prepared.inside.grant } in
    let own = subst (λ (w : Managed). IsOwn w txn) (sym c.self.view_is) c.requires.own in
    let told =
    subst (λ (e : Managed × Prepared). IsPrepared e.0 txn e.1) (sym (λ j. (c.self.view_is j, c.prepared.view_is j)))
    c.requires.prepared in
    let g : Granted = c.in-Some.grant in
    let holds = granted_after i.history i.made i.newest i.kept.items c.self.invariant.0 txn c.split-links.ensures.lawful own p told g c.in-Some.is in
    let history : c.enter-entry.new.self ≡ record i.history { records = i.history.records ++ record_of txn p.reply ∷ [] } =
    c.enter-entry.ensures.entered ∙ (λ j. record i.history { records = i.history.records ++ c.split-links.ensures.entry j }) in
    let made : i.made + 1 ≡ suc i.made = omega arith in
    let put = c.replace-replaced in
    let kept : put.new.kept.items ≡ keep_last i.history.start.recent (i.kept.items ++ g.tree ∷ []) =
    ap (λ (b : Buffer Tree). b.items) put.ensures.kept ∙ ap (λ n. keep_last n (i.kept.items ++ g.tree ∷ [])) c.self.invariant.1 in
    let same : put.new.kept.capacity ≡ i.history.start.recent =
    ap (λ (b : Buffer Tree). b.capacity) put.ensures.kept ∙ c.self.invariant.1 in
    let P = λ (e : Recorded × (ℕ × (Lower × (LayeredVersion × List Tree)))).
    HoldsNewest (managed_of e.0 e.1.0 e.1.1.0) e.1.1.0 e.1.1.1.0 e.1.1.1.1 in (
      subst P (sym (λ j. (history j, (made j, (put.ensures.layers j, (put.ensures.newest j, kept j)))))) holds,
      same ∙ sym (ap (λ (h : Recorded). h.start.recent) history),
    )
