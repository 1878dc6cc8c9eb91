use Rattle.std.proofs.Common.{◌+◌, ◌≤◌, length, ap, sym, subst, ◌∙◌, arith}
use Rattle.std.proofs.lemmas.Int.{ints}
use Rattle.counted.specs.Edits.{put_items}
use Rattle.counted.specs.Roots.{view_of_root, IsShaped}
use Rattle.counted.specs.Sums.{total}
use Rattle.counted.specs.Trees.{IsRoot}
use Rattle.counted.specs.Views.{View}
use Rattle.counted.proofs.InPlace.{edit_within}
use Rattle.counted.proofs.Leaves.{put_items-le}
use Rattle.counted.proofs.Places.{length-edited}
use Rattle.counted.proofs.Totals.{total_within}
use Rattle.counted.proofs.tree.CountedTree.edit_in_place.Goals as goal

pub overflow_add-self-in-Ok : goal.overflow_add-self-in-Ok
overflow_add-self-in-Ok c =
    let was = c.in-Some-get_mut.ensures.value ∙ c.own.ensures in
    let old = ap (λ t. t.entries) (ap view_of_root c.in-Some.is) ∙ ap (λ (v : View). v.items) (sym was) in
    let e = ap (λ t. t.entries) c.self.view_is in
    let sum = c.self.invariant.sum ∙ ap total old in
    let items = c.in-Some-get_mut.node.now.items in
    let within = edit_within c.args.at c.args.gone c.args.put items _ c.in-Ok.added
    (omega (arith, c.requires.within, ap length old, ap length e)) c.in-Ok.ensures.ok in
    let before = total_within items in
    omega (arith, ints, c.requires.few, ap length old, ap length e)

pub invariant_of-self-in-Ok : goal.invariant_of-self-in-Ok
invariant_of-self-in-Ok c =
    let was = c.in-Some-get_mut.ensures.value ∙ c.own.ensures in
    let old = ap (λ t. t.entries) (ap view_of_root c.in-Some.is) ∙ ap (λ (v : View). v.items) (sym was) in
    let e = ap (λ t. t.entries) c.self.view_is in
    let inside = c.self.invariant in
    let ok = c.in-Ok.ensures.ok in
    let items = c.in-Some-get_mut.node.now.items in
    let here : c.args.at + c.args.gone ≤ length items = omega (arith, c.requires.within, ap length old, ap length e) in
    let more = length-edited c.args.at c.args.gone (put_items c.args.put) items here in
    let long = ap length ok.items in
    let count = inside.count ∙ ap length old in
    let sum = inside.sum ∙ ap total old in
    let net = ok.net in
    let within = edit_within c.args.at c.args.gone c.args.put items _ c.in-Ok.added here ok in
    let before = total_within items in
    record {
      shape = c.in-Ok.ensures.root (subst IsRoot (sym was) (subst IsShaped c.in-Some.is inside.shape));
      count = omega (arith, c.requires.one);
      sum = omega (arith, ints, c.requires.few, ap length old, ap length e);
      few = omega (arith, c.requires.few, ap length old, ap length e, put_items-le c.args.put);
    }
