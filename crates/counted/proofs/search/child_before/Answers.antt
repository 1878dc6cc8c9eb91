use Rattle.std.proofs.Common.{◌≡◌, ◌+◌, ◌<◌, length, take, get_or, refl, sym, ◌∙◌, subst, arith, to_z, of_z, w64}
use Rattle.std.specs.Prelude.{◌+ℤ◌, ℤ}
use Rattle.std.proofs.lemmas.Int.{ints, to_z-of_z}
use Rattle.counted.specs.declared.node.Child.{Child}
use Rattle.counted.specs.Search.{is_before, ArePlaced, IsChildPlace, IsNear, IsUp}
use Rattle.counted.specs.Shapes.{items_of, all_items}
use Rattle.counted.specs.Sums.{total}
use Rattle.counted.proofs.Leads.{first_entry}
use Rattle.counted.proofs.Places.{child_read, child_some, count_within}
use Rattle.counted.proofs.Searches.{before_up, child_placed, lead_placed, near_part, reached}
use Rattle.counted.proofs.search.child_before.Given as given
use Rattle.counted.proofs.search.child_before.Goals.{After-index-children-next}
use Rattle.counted.proofs.search.child_before.Goals as goal

-- so far above the rows below is the child that is looked at
here : (g : given.Over) (c : After-index-children-next g) → IsUp c.args.target (to_z w64 c.loop-low.up-bits)
    (total (all_items (take c.next_of-next.result c.args.children.now)) +ℤ to_z w64 (of_z w64 c.args.shift))
here g c =
    c.next_of-next.ensures.up _ (λ n. total (all_items (take n c.args.children.now)) +ℤ to_z w64 (of_z w64 c.args.shift))
    c.loop-low.invariant.up

near : (g : given.Over) (c : After-index-children-next g)
    → IsNear (to_z w64 (of_z w64 c.args.shift)) (length (all_items c.args.children.now))
near g c =
    subst (λ (z : ℤ). IsNear z (length (all_items c.args.children.now))) (sym (to_z-of_z w64 c.args.shift c.ranges.shift)) c.requires.near

pub begins_before-requires-clause-some : goal.begins_before-requires-clause-some
begins_before-requires-clause-some g c =
    let m = c.next_of-next.result in
    let lt : m < length c.args.children.now = omega (arith, c.next_of-next.ensures.high, c.loop-low.invariant.short) in
    child_some _ _ (child_read c.args.children.now m c.index-children-next.result c.requires.children lt c.index-children-next.is)

pub begins_before-requires-clause-reached : goal.begins_before-requires-clause-reached
begins_before-requires-clause-reached g c =
    let cs = c.args.children.now in
    let m = c.next_of-next.result in
    let lt : m < length cs = omega (arith, c.next_of-next.ensures.high, c.loop-low.invariant.short) in
    let x = c.index-children-next.result in
    let is = child_read cs m x c.requires.children lt c.index-children-next.is in
    let at = (goal.at.begins_before-requires-clause-reached g c).After-index-children-next in
    reached c.args.target (all_items cs) x.lead.sid _ _ c.requires.met
    (λ placed. lead_placed (items_of x) x.lead (child_some _ _ is) is.lead
    (subst (λ (y : Child). ArePlaced (items_of y)) (sym c.index-children-next.is) (child_placed cs m x lt placed)))
    (here g at) (near_part (all_items (take m cs)) (all_items cs) _ (count_within cs m) (near g at))

pub up_past_child-up-requires-then-begins_before-clause-up : goal.up_past_child-up-requires-then-begins_before-clause-up
up_past_child-up-requires-then-begins_before-clause-up g c =
    let at = (goal.at.up_past_child-up-requires-then-begins_before-clause-up g c).After-index-children-next in
    (to_z w64 (of_z w64 c.args.shift), near g at, here g at)

pub loop-low-preserved-then-begins_before : goal.loop-low-preserved-then-begins_before
loop-low-preserved-then-begins_before g c =
    let cs = c.args.children.now in
    let m = c.next_of-next.result in
    let lt : m < length cs = omega (arith, c.next_of-next.ensures.high, c.loop-low.invariant.short) in
    let up = here g (goal.at.loop-low-preserved-then-begins_before g c).After-index-children-next in
    let x = c.index-children-next.result in
    let end = total (all_items (take (m + 1) cs)) +ℤ to_z w64 (of_z w64 c.args.shift) in
    let more = c.up_past_child-up-then-begins_before.result in
    let plain : to_z w64 (of_z w64 more) ≡ more = omega (arith, ints, c.up_past_child-up-then-begins_before.type_inv) in
    record {
      within = omega (arith, c.next_of-next.ensures.low, c.next_of-next.ensures.high);
      short = omega (arith, c.next_of-next.ensures.high, c.loop-low.invariant.short);
      low = λ some d e.
          before_up (g.P.Probe.stand c.args.probe.now) c.args.target _ (get_or (items_of (get_or cs m d)) 0 e) _ _ refl up
          ∙ c.begins_before.ensures.before _ (first_entry cs m x d e c.requires.children lt c.index-children-next.is)
          ∙ c.if-begins_before.true;
      high = c.loop-low.invariant.high;
      up = subst (λ (z : ℤ). IsUp c.args.target z end) (sym plain) (c.up_past_child-up-then-begins_before.ensures _ up);
      steps = λ plain. c.begins_before.ensures.steps plain ∙ c.loop-low.invariant.steps plain;
    }

pub loop-low-preserved : goal.loop-low-preserved
loop-low-preserved g c =
    let cs = c.args.children.now in
    let m = c.next_of-next.result in
    let lt : m < length cs = omega (arith, c.next_of-next.ensures.high, c.loop-low.invariant.short) in
    let up = here g (goal.at.loop-low-preserved g c).After-index-children-next in
    let x = c.index-children-next.result in
    record {
      within = omega (arith, c.next_of-next.ensures.low, c.next_of-next.ensures.high);
      short = omega (arith, c.next_of-next.ensures.high, c.loop-low.invariant.short);
      low = c.loop-low.invariant.low;
      high = λ some d e.
          before_up (g.P.Probe.stand c.args.probe.now) c.args.target _ (get_or (items_of (get_or cs m d)) 0 e) _ _ refl up
          ∙ c.begins_before.ensures.before _ (first_entry cs m x d e c.requires.children lt c.index-children-next.is)
          ∙ c.if-begins_before.false;
      up = c.loop-low.invariant.up;
      steps = λ plain. c.begins_before.ensures.steps plain ∙ c.loop-low.invariant.steps plain;
    }

pub returns-clause-place : goal.returns-clause-place
returns-clause-place g c =
    let next : c.loop-low.high ≡ c.loop-low.low + 1 = omega (arith, c.loop-low.invariant.within, c.loop-low-test.false) in
    let there = rw next at c.loop-low.invariant.high in
    let plain = to_z-of_z w64 c.args.shift c.ranges.shift in
    let test = is_before (g.P.Probe.stand c.args.probe.now) c.args.target in
    let place : IsChildPlace test (to_z w64 (of_z w64 c.args.shift)) c.args.children.now c.loop-low.low = record {
      within = omega (arith, c.loop-low.invariant.within, c.loop-low.invariant.short);
      low = c.loop-low.invariant.low;
      high = there;
    }
    in
    rw plain at place
