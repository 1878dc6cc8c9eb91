use Rattle.std.proofs.Common.{◌≡◌, ◌<◌, ◌+◌, refl, length, get_or, set, sym, ap, ◌∙◌, subst, arith}
use Rattle.model.specs.declared.entry.Entry.{Entry}
use Rattle.model.specs.Entries.{entry_at, IsLawful}
use Rattle.model.specs.Edits.{change_with_cell, set_ins}
use Rattle.delta.specs.Tree.{Tree}
use Rattle.delta.proofs.ChangesLemmas.{HasInsert, nothing, found_in, some_of, cell_of}
use Rattle.delta.proofs.CountedLemmas.{some_get, run_is_set}
use Rattle.delta.proofs.LawfulLemmas.{IsEdited, edited, IsLawful-set_ins}
use Rattle.delta.proofs.tree.DeltaTree.set_ins.Goals.{After-get, After-index_of_insert-index, In_ok-replace_run}
use Rattle.delta.proofs.tree.DeltaTree.set_ins.Goals as goal
use Rattle.std.proofs.lemmas.Grind.{common_steps}

-- the insert is there
found : (c : After-index_of_insert-index)
    → HasInsert c.args.self.now.key_cols c.args.sid c.args.key.now c.args.self.now.entries c.index_of_insert-index.result
found c =
    found_in c.self.inside.key_cols c.self.inside.tree.entries c.args.self.now c.args.sid c.cells.result.now c.args.key.now
    c.index_of_insert-index.result c.self.view_is c.cells.ensures c.self.invariant.ordered c.index_of_insert-index.ensures
    (some_of _ _ c.requires.there)

-- its place is one of the counted tree's
short : (c : After-index_of_insert-index) → c.index_of_insert-index.result < length c.self.inside.tree.entries
short c = omega (arith, (found c).short, ap (λ (w : Tree). length w.entries) c.self.view_is)

-- its entry was read
read : (c : After-get) → c.get.result.now ≡ get_or c.args.self.now.entries c.index_of_insert-index.result nothing
read c = grind (arith, common_steps, c.get.ensures, some_get, nothing)

pub get-requires : goal.get-requires
get-requires c = short (goal.at.get-requires c).After-index_of_insert-index

pub with_cell-requires : goal.with_cell-requires
with_cell-requires c = grind (arith, common_steps, c.requires.there, found, nothing, read, cell_of)

pub replace_run-requires-clause-within : goal.replace_run-requires-clause-within
replace_run-requires-clause-within c =
    omega (arith, short (goal.at.replace_run-requires-clause-within c).After-index_of_insert-index)

-- the tree with the insert's value changed
written : (c : In_ok-replace_run) →
    let t = c.args.self.now in
    IsEdited c.self.inside.key_cols c.replace_run.new.self.entries t
    (set_ins t.key_cols c.args.sid c.args.key.now c.args.col c.args.value t.entries)
written c =
    let t = c.args.self.now in
    let n = c.index_of_insert-index.result in
    let es = c.self.inside.tree.entries in
    let here = found (goal.at.returns-clause-ok c).After-index_of_insert-index in
    let less = short (goal.at.returns-clause-ok c).After-index_of_insert-index in
    let list : es ≡ t.entries = ap (λ (w : Tree). w.entries) c.self.view_is in
    let item = read (goal.at.returns-clause-ok c).After-get in
    let entry = c.in_ok-entry.ensures ∙ ap (λ (e : Entry). entry_at e.sid (change_with_cell c.args.col c.args.value e.change)) item in
    let run : c.replace_run.new.self.entries ≡ set es n c.in_ok-entry.entry =
    c.in_ok-replace_run.ensures.ok ∙ run_is_set es n (n + 1) c.in_ok-entry.entry refl less in
    edited c.self.inside.key_cols es c.replace_run.new.self.entries
    (set_ins t.key_cols c.args.sid c.args.key.now c.args.col c.args.value t.entries) t c.self.view_is
    (run ∙ (λ i. set (list i) n (entry i)) ∙ sym (here.with_cell c.args.col c.args.value))
    (IsLawful-set_ins t.key_cols c.args.sid c.args.key.now c.args.col c.args.value t.entries n
    (subst (λ (w : Tree). IsLawful w.key_cols w.entries) c.self.view_is c.self.invariant) here c.requires.outside_key)

pub returns-clause-ok : goal.returns-clause-ok
returns-clause-ok c = (written c).shows

pub invariant_of-self-2 : goal.invariant_of-self-2
invariant_of-self-2 c = (written c).lawful
