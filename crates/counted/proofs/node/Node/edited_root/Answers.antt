use Rattle.std.proofs.Common.{List, ◌≡◌, ◌∙◌, ap, arith, length, length-append, subst, sym}
use Rattle.std.specs.Prelude.{IfOk}
use Rattle.std.specs.Arc.{arc_value}
use Rattle.model.specs.declared.entry.Entry.{Entry}
use Rattle.counted.specs.Edits.{edited, put_items}
use Rattle.counted.specs.Grown.{grown_items}
use Rattle.counted.proofs.Leaves.{gone_within, put_items-le}
use Rattle.counted.proofs.BranchesLemmas.{edited_along}
use Rattle.counted.proofs.Places.{length-edited}
use Rattle.counted.proofs.node.Node.edited_root.Goals as goal

pub above-requires-clause-few : goal.above-requires-clause-few
above-requires-clause-few c =
    let path = c.path_to-path.ensures in
    let own = gone_within c.args.at c.args.gone c.path_to-path.result.end c.requires.one path.some in
    let items = edited_along c.args.self.now c.args.at c.args.gone _ _ (put_items c.args.put) _ c.path_to-path.result _ _ path own
    c.in_ok-entries.ensures c.in_ok-grown_leaf.ensures c.in_ok-node.ensures in
    let long = ap length items in
    let is = ap (λ g. length (grown_items g)) c.in-Two.is in
    let both = length-append c.in-Two.left.items c.in-Two.right.items in
    let whole = length-edited c.args.at c.args.gone (put_items c.args.put) c.args.self.now.items c.requires.within in
    omega (arith, c.requires.few, put_items-le c.args.put)

pub returns-in-One-clause-items : goal.returns-in-One-clause-items
returns-in-One-clause-items c =
    let path = c.path_to-path.ensures in
    let own = gone_within c.args.at c.args.gone c.path_to-path.result.end c.requires.one path.some in
    let items = edited_along c.args.self.now c.args.at c.args.gone _ _ (put_items c.args.put) _ c.path_to-path.result _ _ path own
    c.in_ok-entries.ensures c.in_ok-grown_leaf.ensures c.in_ok-node.ensures in
    let same : c.in-One.node.items ≡ edited c.args.at c.args.gone (put_items c.args.put) c.args.self.now.items =
    sym (ap grown_items c.in-One.is) ∙ items in
    subst (λ (es : List Entry). IfOk c.root_of.result (λ a. (arc_value a).items ≡ es)) same c.root_of.ensures.items

pub returns-in_ok-new-in-Two-clause-items : goal.returns-in_ok-new-in-Two-clause-items
returns-in_ok-new-in-Two-clause-items c =
    let path = c.path_to-path.ensures in
    let own = gone_within c.args.at c.args.gone c.path_to-path.result.end c.requires.one path.some in
    let items = edited_along c.args.self.now c.args.at c.args.gone _ _ (put_items c.args.put) _ c.path_to-path.result _ _ path own
    c.in_ok-entries.ensures c.in_ok-grown_leaf.ensures c.in_ok-node.ensures in
    ap (λ v. v.items) c.in_ok-new-in-Two.ensures.ok ∙ c.in_ok-above-in-Two.ensures.items ∙ sym (ap grown_items c.in-Two.is) ∙ items
