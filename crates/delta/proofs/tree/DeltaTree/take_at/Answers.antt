use Rattle.std.proofs.Common.{remove, ap, ◌∙◌, subst, arith}
use Rattle.model.specs.Entries.{IsLawful}
use Rattle.delta.specs.Tree.{Tree}
use Rattle.delta.proofs.LawfulLemmas.{IsEdited, edited, IsLawful-remove}
use Rattle.delta.proofs.tree.DeltaTree.take_at.Goals.{In_ok-remove}
use Rattle.delta.proofs.tree.DeltaTree.take_at.Goals as goal
use Rattle.std.proofs.lemmas.Grind.{common_steps}

pub remove-requires-clause-within : goal.remove-requires-clause-within
remove-requires-clause-within c = grind (arith, common_steps, c.requires)

-- the tree without the entry
taken : (c : In_ok-remove)
    → IsEdited c.self.inside.key_cols c.remove.new.self.entries c.args.self.now (remove c.args.self.now.entries c.args.at)
taken c =
    let t = c.args.self.now in
    edited c.self.inside.key_cols c.self.inside.tree.entries c.remove.new.self.entries (remove t.entries c.args.at) t c.self.view_is
    (c.in_ok-remove.ensures.ok ∙ ap (λ (w : Tree). remove w.entries c.args.at) c.self.view_is)
    (IsLawful-remove t.key_cols t.entries c.args.at (subst (λ (w : Tree). IsLawful w.key_cols w.entries) c.self.view_is c.self.invariant)
    (omega (arith, c.requires)))

pub returns-clause-ok : goal.returns-clause-ok
returns-clause-ok c = (taken c).shows

pub invariant_of-self-2 : goal.invariant_of-self-2
invariant_of-self-2 c = (taken c).lawful
