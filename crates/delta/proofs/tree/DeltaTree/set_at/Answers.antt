use Rattle.std.proofs.Common.{◌≡◌, ◌<◌, ◌+◌, length, set, refl, sym, ap, ◌∙◌, subst, arith}
use Rattle.std.specs.Prelude.{Some, slice_get}
use Rattle.model.specs.declared.entry.Entry.{Entry}
use Rattle.model.specs.Entries.{entry_at, IsLawful}
use Rattle.model.specs.Edits.{change_with_cell}
use Rattle.delta.specs.Tree.{Tree}
use Rattle.delta.proofs.ChangesLemmas.{nothing}
use Rattle.delta.proofs.CountedLemmas.{some_get, run_is_set}
use Rattle.delta.proofs.LawfulLemmas.{IsEdited, edited, IsLawful-set}
use Rattle.delta.proofs.tree.DeltaTree.set_at.Goals.{After-get, In_ok-replace_run}
use Rattle.delta.proofs.tree.DeltaTree.set_at.Goals as goal

-- the entry that was read is the one at the place
read : (c : After-get) → Some c.get.result.now ≡ slice_get c.args.self.now.entries c.args.at
read c = c.get.ensures ∙ ap (λ (w : Tree). slice_get w.entries c.args.at) c.self.view_is

pub with_cell-requires : goal.with_cell-requires
with_cell-requires c = c.requires.there c.get.result.now (sym (read c))

-- the tree with the entry's value changed
written : (c : In_ok-replace_run) (e : Entry) → slice_get c.args.self.now.entries c.args.at ≡ Some e
    → IsEdited c.self.inside.key_cols c.replace_run.new.self.entries c.args.self.now
    (set c.args.self.now.entries c.args.at (entry_at e.sid (change_with_cell c.args.col c.args.value e.change)))
written c e at =
    let t = c.args.self.now in
    let n = c.args.at in
    let es = c.self.inside.tree.entries in
    let x = c.get.result.now in
    let list : es ≡ t.entries = ap (λ (w : Tree). w.entries) c.self.view_is in
    let short : n < length t.entries = omega (arith, c.requires.within) in
    let item : x ≡ e = some_get t.entries n x x (read (goal.at.returns-clause-ok c).After-get) ∙ sym (some_get t.entries n e x (sym at)) in
    let entry = c.in_ok-entry.ensures ∙ ap (λ (y : Entry). entry_at y.sid (change_with_cell c.args.col c.args.value y.change)) item in
    let run = run_is_set es n (n + 1) c.in_ok-entry.entry refl (omega (arith, short, ap length list)) in
    edited c.self.inside.key_cols es c.replace_run.new.self.entries
    (set t.entries n (entry_at e.sid (change_with_cell c.args.col c.args.value e.change))) t c.self.view_is
    (c.in_ok-replace_run.ensures.ok ∙ run ∙ (λ i. set (list i) n (entry i)))
    (subst (λ (y : Entry). IsLawful t.key_cols (set t.entries n (entry_at y.sid (change_with_cell c.args.col c.args.value y.change))))
    (sym (some_get t.entries n e nothing (sym at)))
    (IsLawful-set t.key_cols c.args.col c.args.value t.entries n
    (subst (λ (w : Tree). IsLawful w.key_cols w.entries) c.self.view_is c.self.invariant) short c.requires.outside_key))

pub returns-clause-ok : goal.returns-clause-ok
returns-clause-ok c = λ e at. (written c e at).shows

pub invariant_of-self-2 : goal.invariant_of-self-2
invariant_of-self-2 c = (written c c.get.result.now (sym (read (goal.at.invariant_of-self-2 c).After-get))).lawful
