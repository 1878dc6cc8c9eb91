use Rattle.std.proofs.Common.{ℕ, List, subst, ap, sym, ◌∙◌, refl, arith}
use Rattle.std.specs.Prelude.{pos}
use Rattle.model.specs.declared.entry.Entry.{Entry}
use Rattle.counted.specs.Search.{is_before, IsPlace, MayMeet}
use Rattle.counted.specs.Shapes.{items_of, all_items}
use Rattle.counted.proofs.Places.{at_inner, at_leaf}
use Rattle.counted.proofs.Descents.{below_moved, below_near, begun, between_moved, between_child, place_below, small}
use Rattle.counted.proofs.Searches.{child_met}
use Rattle.counted.proofs.node.Node.find.Goals as goal

pub loop-entries-init : goal.loop-entries-init
loop-entries-init g c =
    let test = is_before (g.P.Probe.stand c.args.probe.now) c.args.target in
    let top = begun test c.args.self.now.items _ c.root-above.ensures in
    record { below = top.0; between = top.1; met = c.requires.met; steps = λ plain. refl }

pub loop-entries-preserved : goal.loop-entries-preserved
loop-entries-preserved g c =
    let test = is_before (g.P.Probe.stand c.args.probe.now) c.args.target in
    let at = at_inner c.read.ensures.view c.read.ensures.balanced c.in-Inner.is in
    let cs = c.in-Inner.children.items in
    let d = c.index.result.now in
    let plain = small _ _ _ _ _ c.loop-entries.invariant.below c.requires.few in
    let place = rw plain at (rw c.deref-in-Inner.ensures.value at c.child_before-at.ensures.place) in
    let index = rw c.deref-in-Inner-2.ensures.value at c.child-above.ensures.index in
    let shift = rw c.deref-in-Inner-2.ensures.value at c.child-above.ensures.shift in
    let down = rw c.deref-in-Inner-2.ensures.value at (c.child-above.ensures.below c.args.self.now.items d) in
    let was = below_moved _ _ _ _ _ _ _ _ refl refl at.items c.loop-entries.invariant.below in
    let t = between_moved test _ _ _ _ _ _ _ refl refl at.items c.loop-entries.invariant.between in
    let same = sym (ap (λ v. v.items) c.deref-node.ensures ∙ ap items_of c.index.ensures) in
    let level = ap (λ v. v.depth) c.deref-node.ensures ∙ ap (λ x. x.node.value.depth) c.index.ensures
    ∙ (at.each.each c.child_before-at.result d place.within).level in
    record {
      below = below_moved _ _ _ _ _ _ _ _ refl refl same (down was);
      between =
          between_moved test _ _ _ _ _ _ _ (sym index) (sym shift) same
          (between_child test _ _ _ cs _ d at.each place.within was.here was.sum t place);
      met = subst (MayMeet c.args.target) same
          (child_met c.args.target cs _ d place.within (subst (MayMeet c.args.target) at.items c.loop-entries.invariant.met));
      steps = λ plain.
          let rest = c.loop-entries.invariant.steps plain in
          let own = c.child_before-at.ensures.steps plain in
          let one = c.read.ensures.steps in
          omega (arith, at.depth);
    }

pub returns-in-Leaf-clause-place : goal.returns-in-Leaf-clause-place
returns-in-Leaf-clause-place g c =
    let test = is_before (g.P.Probe.stand c.args.probe.now) c.args.target in
    let at = at_leaf c.read.ensures.view c.read.ensures.balanced c.in-Leaf.is in
    let items = c.args.self.now.items in
    let was = c.loop-entries.invariant.below in
    let plain = small _ _ _ _ _ was c.requires.few in
    let own = subst (λ (es : List Entry). IsPlace test c.loop-entries.above.shift es c.place_in-at.result)
    (c.deref.ensures.value ∙ sym at.items)
    (rw plain at c.place_in-at.ensures) in
    subst (λ (k : ℕ). IsPlace test (pos 0) items k) (sym c.spot.ensures.index)
    (place_below test items _ _ _ was.here was.sum c.loop-entries.invariant.between c.place_in-at.result own)

pub place_in-at-requires-clause-met : goal.place_in-at-requires-clause-met
place_in-at-requires-clause-met g c =
    let at = at_leaf c.read.ensures.view c.read.ensures.balanced c.in-Leaf.is in
    subst (MayMeet c.args.target) (at.items ∙ sym c.deref.ensures.value) c.loop-entries.invariant.met

pub place_in-at-requires-clause-near : goal.place_in-at-requires-clause-near
place_in-at-requires-clause-near g c =
    let at = at_leaf c.read.ensures.view c.read.ensures.balanced c.in-Leaf.is in
    below_near _ _ _ _ _ _ c.loop-entries.invariant.below c.requires.few (c.deref.ensures.value ∙ sym at.items)

pub child_before-at-requires-clause-met : goal.child_before-at-requires-clause-met
child_before-at-requires-clause-met g c =
    let at = at_inner c.read.ensures.view c.read.ensures.balanced c.in-Inner.is in
    subst (MayMeet c.args.target) (at.items ∙ ap all_items (sym c.deref-in-Inner.ensures.value)) c.loop-entries.invariant.met

pub child_before-at-requires-clause-near : goal.child_before-at-requires-clause-near
child_before-at-requires-clause-near g c =
    let at = at_inner c.read.ensures.view c.read.ensures.balanced c.in-Inner.is in
    below_near _ _ _ _ _ _ c.loop-entries.invariant.below c.requires.few (ap all_items c.deref-in-Inner.ensures.value ∙ sym at.items)
