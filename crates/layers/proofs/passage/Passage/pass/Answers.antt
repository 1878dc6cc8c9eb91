use Rattle.std.proofs.Common.{sym, ap, ◌∙◌, subst}
use Rattle.std.specs.Prelude.{IfOk}
use Rattle.delta.specs.Tree.{Tree}
use Rattle.layers.specs.Held.{held_tree}
use Rattle.layers.specs.Over.{AreAligned}
use Rattle.layers.specs.Passage.{IsPassed}
use Rattle.layers.proofs.passage.Passage.pass.Goals as goal

pub returns-in-Tree : goal.returns-in-Tree
returns-in-Tree c =
    let y = c.args.other.now in
    let own = c.in-Tree.tree-is ∙ sym (ap held_tree c.in-Tree.is) ∙ c.self.view_is in
    subst (λ (t : Tree). IfOk c.pass_tree.result (λ passed. (w : AreAligned t y) → IsPassed c.args.rule t y w passed)) own
    c.pass_tree.ensures

pub returns-in-List : goal.returns-in-List
returns-in-List c =
    let y = c.args.other.now in
    let own = c.in-List.list-is ∙ sym (ap held_tree c.in-List.is) ∙ c.self.view_is in
    subst (λ (t : Tree). (w : AreAligned t y) → IsPassed c.args.rule t y w c.pass_list.result) own c.pass_list.ensures
