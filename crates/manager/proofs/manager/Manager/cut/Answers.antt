use Rattle.std.proofs.Common.{◌≡◌, List, [], ap, sym, ◌∙◌, subst}
use Rattle.circular_buffer.specs.Buffer.{Buffer}
use Rattle.delta.specs.Tree.{Tree}
use Rattle.txn.specs.Version.{TableVersion}
use Rattle.manager.specs.History.{Recorded, recorded_at}
use Rattle.manager.specs.Managed.{Managed, managed_of, history_of, cut_of, IsOwn}
use Rattle.manager.specs.Kept.{HoldsNewest}
use Rattle.manager.proofs.CutLemmas.{cut_holds, IsOwn-cut_of}
use Rattle.manager.proofs.manager.Manager.cut.Goals.{After-replace}
use Rattle.manager.proofs.manager.Manager.cut.Goals as goal

-- the new history is the one that a cut leaves
history : (c : After-replace) → c.replace.new.dest
    ≡ history_of (cut_of (managed_of c.self.inside.history c.self.inside.made c.self.inside.newest.layers))
history c =
    let h = c.self.inside.history in
    c.replace.ensures.after
    ∙ c.next-next.ensures
    ∙ ap (λ (v : TableVersion). record (recorded_at v h.start.limit h.start.recent h.start.rule []) { keeps = h.keeps })
    c.self.invariant.0.newest_is

pub invariant_of-self : goal.invariant_of-self
invariant_of-self c =
    let i = c.self.inside in
    let m : Managed = managed_of i.history i.made i.newest.layers in
    let l = i.newest.layers in
    let h = c.self.invariant.0 in
    let holds = cut_holds m l i.newest i.kept.items h in
    let history = history (goal.at.invariant_of-self c).After-replace in
    let kept : c.clear.new.self.items ≡ [] = ap (λ (b : Buffer Tree). b.items) c.clear.ensures in
    let capacity = ap (λ (b : Buffer Tree). b.capacity) c.clear.ensures ∙ c.self.invariant.1 in
    let P = λ (e : Recorded × List Tree). HoldsNewest (managed_of e.0 i.made l) l i.newest e.1 in
    (subst P (sym (λ j. (history j, kept j))) holds, capacity ∙ sym (ap (λ (r : Recorded). r.start.recent) history))

pub returns-clause-own : goal.returns-clause-own
returns-clause-own c =
    let i = c.self.inside in
    let history = history (goal.at.returns-clause-own c).After-replace in
    let next : managed_of c.replace.new.dest i.made i.newest.layers ≡ cut_of c.args.self.now =
    ap (λ (r : Recorded). managed_of r i.made i.newest.layers) history ∙ ap cut_of c.self.view_is in
    λ txn own. subst (λ (v : Managed). IsOwn v txn) (sym next) (IsOwn-cut_of c.args.self.now txn own)
