use Rattle.std.proofs.Common.{remove, sym, ap, ◌∙◌, subst, arith}
use Rattle.model.specs.Entries.{IsLawful}
use Rattle.model.specs.Edits.{take_ins}
use Rattle.delta.specs.Tree.{Tree}
use Rattle.delta.proofs.ChangesLemmas.{HasInsert, found_in}
use Rattle.delta.proofs.LawfulLemmas.{IsEdited, edited, IsLawful-take_ins}
use Rattle.delta.proofs.tree.DeltaTree.take_ins.Goals.{After-index_of_insert-index, In_ok-remove}
use Rattle.delta.proofs.tree.DeltaTree.take_ins.Goals as goal
use Rattle.std.proofs.lemmas.Grind.{common_steps}

-- the insert is there
found : (c : After-index_of_insert-index)
    → HasInsert c.args.self.now.key_cols c.args.sid c.args.key.now c.args.self.now.entries c.index_of_insert-index.result
found c =
    found_in c.self.inside.key_cols c.self.inside.tree.entries c.args.self.now c.args.sid c.cells.result.now c.args.key.now
    c.index_of_insert-index.result c.self.view_is c.cells.ensures c.self.invariant.ordered c.index_of_insert-index.ensures
    c.requires

pub remove-requires-clause-within : goal.remove-requires-clause-within
remove-requires-clause-within c = grind (arith, common_steps, found)

-- the tree without it
taken : (c : In_ok-remove) → IsEdited c.self.inside.key_cols c.remove.new.self.entries c.args.self.now
    (take_ins c.args.self.now.key_cols c.args.sid c.args.key.now c.args.self.now.entries)
taken c =
    let t = c.args.self.now in
    let n = c.index_of_insert-index.result in
    let here = found (goal.at.returns-clause-ok c).After-index_of_insert-index in
    edited c.self.inside.key_cols c.self.inside.tree.entries c.remove.new.self.entries
    (take_ins t.key_cols c.args.sid c.args.key.now t.entries) t c.self.view_is
    (c.in_ok-remove.ensures.ok ∙ ap (λ (w : Tree). remove w.entries n) c.self.view_is ∙ sym here.taken)
    (IsLawful-take_ins t.key_cols c.args.sid c.args.key.now t.entries n
    (subst (λ (w : Tree). IsLawful w.key_cols w.entries) c.self.view_is c.self.invariant) here)

pub returns-clause-ok : goal.returns-clause-ok
returns-clause-ok c = (taken c).shows

pub invariant_of-self-2 : goal.invariant_of-self-2
invariant_of-self-2 c = (taken c).lawful
