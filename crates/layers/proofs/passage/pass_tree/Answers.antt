use Rattle.std.proofs.Common.{◌∙◌, subst}
use Rattle.delta.specs.Tree.{Tree}
use Rattle.layers.specs.Over.{AreAligned}
use Rattle.layers.specs.Passage.{IsPassed}
use Rattle.layers.specs.Serialization.{IsSerialized}
use Rattle.layers.proofs.passage.pass_tree.Goals as goal

pub returns-then-not-moves_none : goal.returns-then-not-moves_none
returns-then-not-moves_none c =
    let y = c.args.other.now in
    subst (λ (t : Tree). (w : AreAligned t y) → IsPassed c.args.rule t y w c.pass_list.result) c.in_ok-of.ensures c.pass_list.ensures

pub returns-in-Tree : goal.returns-in-Tree
returns-in-Tree c =
    let y = c.args.other.now in
    λ (w : AreAligned c.args.tree y).
    let is = subst (IsSerialized c.args.rule c.args.tree y w) c.in-Tree.is (c.in_ok-next.ensures w) in
    (is.0, c.of-in-Tree.ensures ∙ is.1)

pub returns : goal.returns
returns c =
    let y = c.args.other.now in
    λ (w : AreAligned c.args.tree y). subst (IsSerialized c.args.rule c.args.tree y w) c.in-Conflict.is (c.in_ok-next.ensures w)
