use Rattle.std.proofs.Common.{◌≡◌, List, [], ap, sym, ◌∙◌, subst}
use Rattle.circular_buffer.specs.Buffer.{Buffer}
use Rattle.delta.specs.Tree.{Tree}
use Rattle.txn.specs.Version.{TableVersion}
use Rattle.manager.specs.History.{Recorded, recorded_at}
use Rattle.manager.specs.Managed.{Managed, managed_of, history_of, cut_of}
use Rattle.manager.specs.Kept.{HoldsNewest}
use Rattle.manager.proofs.CutLemmas.{cut_holds}
use Rattle.manager.proofs.manager.Manager.cut_into.Goals as goal

pub invariant_of-self : goal.invariant_of-self
invariant_of-self c =
    let i = c.self.inside in
    let h = i.history in
    let m : Managed = managed_of i.history i.made i.newest.layers in
    let l = i.newest.layers in
    let holds = cut_holds m l i.newest i.kept.items c.self.invariant.0 in
    let history : c.replace.new.dest ≡ history_of (cut_of m) =
    c.replace.ensures.after
    ∙ c.next-next.ensures
    ∙ ap (λ (v : TableVersion). record (recorded_at v h.start.limit h.start.recent h.start.rule []) { keeps = h.keeps })
    c.self.invariant.0.newest_is in
    let room = c.swap.ensures.x_after ∙ c.requires.room in
    let kept : c.swap.new.x.items ≡ [] = ap (λ (b : Buffer Tree). b.items) room in
    let recent = ap (λ (v : Managed). v.start.recent) c.self.view_is in
    let capacity : c.swap.new.x.capacity ≡ m.start.recent = ap (λ (b : Buffer Tree). b.capacity) room ∙ sym recent in
    let P = λ (e : Recorded × List Tree). HoldsNewest (managed_of e.0 i.made l) l i.newest e.1 in
    (subst P (sym (λ j. (history j, kept j))) holds, capacity ∙ sym (ap (λ (r : Recorded). r.start.recent) history))
