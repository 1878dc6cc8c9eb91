use Rattle.std.proofs.Common.{◌≡◌, ℕ, ◌+◌, drop, refl, sym, ap, ◌∙◌, subst}
use Rattle.values.specs.Lent.{value_of}
use Rattle.values.specs.Shape.{key_of}
use Rattle.values.specs.declared.row.Key.{Key}
use Rattle.model.specs.declared.entry.Change.{Change}
use Rattle.model.specs.declared.entry.Change.TheVariants.{Ins, Mod}
use Rattle.counted.specs.Changes.{change_of}
use Rattle.delta.specs.Tree.{Tree}
use Rattle.delta.specs.Search.{insert_cmp, modify_cmp, stands_before, IsSplit}
use Rattle.delta.specs.Changes.{modify_count, IsRun}
use Rattle.delta.proofs.tree.DeltaTree.run_of.Goals as goal

pub returns-in-Ins : goal.returns-in-Ins
returns-in-Ins c =
    let t = c.args.self.now in
    let e = c.args.entry.now in
    let n = c.index_of_insert-index.result in
    let row = c.in-Ins.row.now in
    let width : c.self.inside.key_cols ≡ t.key_cols = ap (λ (w : Tree). w.key_cols) c.self.view_is in
    let key : c.key.result.now ≡ key_of t.key_cols row = c.key.ensures ∙ ap (λ k. key_of k row) width in
    let at = subst
    (λ (k : Key). IsSplit
    (stands_before (insert_cmp t.key_cols k) c.sid-sid.result) t.entries n) key c.index_of_insert-index.ensures in
    let split = subst
    (λ (s : ℕ). IsSplit (stands_before (insert_cmp t.key_cols (key_of t.key_cols row)) s) t.entries n) c.sid-sid.ensures at in
    let change : e.change ≡ Ins row = sym c.change.ensures ∙ ap change_of c.in-Ins.is in
    record { run = subst (λ (d : Change). IsRun t.key_cols e.sid d t.entries n n) (sym change) (split, refl) }

pub returns-in-Mod : goal.returns-in-Mod
returns-in-Mod c =
    let t = c.args.self.now in
    let e = c.args.entry.now in
    let n = c.place_of_modify-place.result.index in
    let m = n + c.modify_worth.result in
    let col = c.in-Mod.col in
    let split = subst
    (λ (s : ℕ). IsSplit
    (stands_before (modify_cmp col) s) t.entries n) c.sid-sid.ensures c.place_of_modify-place.ensures.split in
    let end =
    ap (λ k. n + k) (c.modify_worth.ensures t.entries n (c.entry.ensures t.entries c.place_of_modify-place.ensures.rest) ∙ ap
    (λ s. modify_count s col (drop n t.entries)) c.sid-sid.ensures) in
    let change : e.change ≡ Mod col (value_of c.in-Mod.field-1) = sym c.change.ensures ∙ ap change_of c.in-Mod.is in
    record { run = subst (λ (d : Change). IsRun t.key_cols e.sid d t.entries n m) (sym change) (split, end) }
