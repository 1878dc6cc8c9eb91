use Rattle.std.proofs.Common.{List, ◌-◌, length, ap, sym, subst, ◌∙◌, arith}
use Rattle.std.proofs.lemmas.Int.{ints}
use Rattle.std.specs.Vec.{with_item}
use Rattle.std.specs.Prelude.{Option, Result, Ok, ℤ, slice_set}
use Rattle.model.specs.declared.entry.Entry.{Entry}
use Rattle.counted.specs.declared.node.Body.TheVariants.{Leaf, Inner}
use Rattle.counted.specs.declared.node.Child.{Child}
use Rattle.counted.specs.Edits.{IsEdit, IsEditedNode}
use Rattle.counted.specs.Shapes.{items_of, view_of, IsBalanced}
use Rattle.counted.specs.Splits.{IsSplit}
use Rattle.counted.specs.Views.{View}
use Rattle.counted.proofs.InPlace.{child_edit, edit_within, children_set, inner_edit, inner_view, leaf_edit, leaf_view, own_child, split_edit, split_small}
use Rattle.counted.proofs.Leaves.{gone_within}
use Rattle.counted.proofs.Places.{at_inner, child_few}
use Rattle.counted.proofs.Totals.{total_within}
use Rattle.counted.proofs.node.+edit.Goals as goal
use Rattle.counted.proofs.node.+edit.Goals.{Node::edit_in_place-in-Leaf, Node::edit_in_place-in-Inner+in_default}

pub Child::edit_in_place-overflow_add-self-in-Ok : goal.Child::edit_in_place-overflow_add-self-in-Ok
Child::edit_in_place-overflow_add-self-in-Ok t c =
    let old = items_of c.args.self.now in
    let was = ap (λ (v : View). v.items) (c.in-Some.ensures.value ∙ c.own.ensures) in
    let edit = subst (λ (es : List Entry). IsEdit c.args.at c.args.gone c.args.put es c.edit_in_place.new.self.items c.in-Ok.added) was
    c.in-Ok.ensures.ok in
    let before = total_within old in
    let after = edit_within c.args.at c.args.gone c.args.put old _ c.in-Ok.added c.requires.within edit in
    omega (arith, ints, c.requires.child.net)

pub Child::edit_in_place-returns-in-Ok-clause-child : goal.Child::edit_in_place-returns-in-Ok-clause-child
Child::edit_in_place-returns-in-Ok-clause-child t c =
    let old = items_of c.args.self.now in
    let was = c.in-Some.ensures.value ∙ c.own.ensures in
    let edit = subst (λ (v : View). IsEdit c.args.at c.args.gone c.args.put v.items c.edit_in_place.new.self.items c.in-Ok.added) was
    c.in-Ok.ensures.ok in
    let before = total_within old in
    let after = edit_within c.args.at c.args.gone c.args.put old _ c.in-Ok.added c.requires.within edit in
    let is = c.requires.child in
    child_edit c.args.self.now.node.value.depth c.args.at c.args.gone c.args.put c.in-Ok.added c.args.self.now _ is c.requires.within edit
    (c.in-Ok.ensures.depth ∙ ap (λ (v : View). v.depth) was)
    (c.in-Ok.ensures.enough (omega (arith, is.full, ap (λ (v : View). v.width) was)))
    c.lead-self.ensures.sized c.lead-self.ensures.lead (omega (arith, is.count, c.requires.within)) (omega (arith, ints, is.net))

pub Node::edit_in_place-edit_in_place-requires : goal.Node::edit_in_place-edit_in_place-requires
Node::edit_in_place-edit_in_place-requires t c =
    let at = at_inner c.self.view_is c.self.invariant c.in-Inner.is in
    let i = c.child_at-index.result.0 in
    let d = c.index_mut.result.now in
    let child = rw c.deref.ensures.value at c.child_at-index.ensures.child in
    let room = rw c.deref.ensures.value at (c.child_at-index.ensures.room d) in
    let e = ap (λ (x : Child). length (items_of x)) c.index_mut.ensures.value in
    let few = child_few c.in-Inner.children.items i d child in
    let all = ap length at.items in
    let own = gone_within c.args.at c.args.gone c.child_at-index.result.1 c.requires.one c.child_at-index.ensures.some in
    let is = at.each.each i d child in
    let level = ap (λ (x : Child). x.node.value.depth) c.index_mut.ensures.value ∙ is.level in (
      omega (arith, at.depth),
      (
        c.requires.one,
        (omega arith, (omega (arith, c.requires.few), own_child _ d _ c.index_mut.ensures.value is)),
      ),
    )

pub Node::edit_in_place-invariant_of-self : goal.Node::edit_in_place-invariant_of-self
Node::edit_in_place-invariant_of-self t c = c.in-Some.ensures.each

pub Node::edit_in_place-returns-in-Some : goal.Node::edit_in_place-returns-in-Some
Node::edit_in_place-returns-in-Some t c =
    let children = c.in-Inner.children.items in
    let i = c.child_at-index.result.0 in
    let end = c.child_at-index.result.1 in
    let gone = c.args.gone in
    let new = c.in-Some.split.children.items in
    let added = c.in-Some.split.added in
    let child = rw c.deref.ensures.value at c.child_at-index.ensures.child in
    let starts = rw c.deref.ensures.value at c.child_at-index.ensures.index in
    let split = subst (λ (cs : List Child). IsSplit cs i (end - gone) gone c.args.put new added) c.deref-in-Inner.ensures.value
    c.in-Some.ensures in
    let e = split_edit children new i c.args.at gone end c.args.least c.args.put added c.requires.one child starts
    (λ d. rw c.deref.ensures.value at (c.child_at-index.ensures.room d)) split in
    let old = ap view_of (sym c.in-Inner.is) ∙ c.self.view_is in
    subst (λ (a : ℤ). IsEditedNode c.args.at gone c.args.least c.args.put c.args.self.now (inner_view new) (Ok a))
    (sym (split_small children new i (end - gone) gone c.args.put added split))
    (subst (λ (v : View). IsEditedNode c.args.at gone c.args.least c.args.put v (inner_view new) (Ok added)) old e)

pub Node::edit_in_place-invariant_of-self-2 : goal.Node::edit_in_place-invariant_of-self-2
Node::edit_in_place-invariant_of-self-2 t c =
    elim c.match-self.branch [
      | Node::edit_in_place-in-Leaf w ↦
          let h : IsBalanced (Leaf w.edit_leaf.new.entries) = w.edit_leaf.ensures.room in
          subst IsBalanced (sym (ap (λ v. v.body) w.self-inside-is)) h
      | Node::edit_in_place-in-Inner+in_default w ↦
          let at = at_inner c.self.view_is c.self.invariant w.in-Inner.is in
          let child = rw w.deref.ensures.value at w.child_at-index.ensures.child in
          let i = w.child_at-index.result.0 in
          let new = w.edit_in_place.new.self in
          let set = children_set w.in-Inner.children.items i w.index_mut.result.now new at.each child w.index_mut.ensures.value
          w.edit_in_place.ensures.child in
          let h : IsBalanced (Inner (with_item w.in-Inner.children i new)) = set.each in
          subst IsBalanced (sym (ap (λ v. v.body) w.self-inside-is)) h
    ]

pub Node::edit_in_place-returns : goal.Node::edit_in_place-returns
Node::edit_in_place-returns t c =
    let old_is = λ (new : View) (r : Result ℤ (Option Entry))
    (v : View). IsEditedNode c.args.at c.args.gone c.args.least c.args.put v new r in
    elim c.match-self.branch [
      | Node::edit_in_place-in-Leaf w ↦
          let old = ap view_of (sym w.in-Leaf.is) ∙ c.self.view_is in
          let new = w.edit_leaf.new.entries.items in
          let after = w.edit_leaf.ensures in
          let e = leaf_edit c.args.at c.args.gone c.args.least c.args.put _ new w.edit_leaf.result after.least after.ok after.err in
          rw (w.result-is, w.self-inside-is) (subst (old_is (leaf_view new) w.edit_leaf.result) old e)
      | Node::edit_in_place-in-Inner+in_default w ↦
          let at = at_inner c.self.view_is c.self.invariant w.in-Inner.is in
          let child = rw w.deref.ensures.value at w.child_at-index.ensures.child in
          let starts = rw w.deref.ensures.value at w.child_at-index.ensures.index in
          let room = rw w.deref.ensures.value at (w.child_at-index.ensures.room w.index_mut.result.now) in
          let after = w.edit_in_place.ensures in
          let e = inner_edit w.in-Inner.children.items w.child_at-index.result.0 c.args.at c.args.gone w.child_at-index.result.1
          c.args.least c.args.put w.index_mut.result.now w.edit_in_place.new.self w.edit_in_place.result c.requires.one at.each child
          w.index_mut.ensures.value starts room w.child_at-index.ensures.some after.child after.ok after.err in
          let old = ap view_of (sym w.in-Inner.is) ∙ c.self.view_is in
          let new = inner_view (slice_set w.in-Inner.children.items w.child_at-index.result.0 w.edit_in_place.new.self) in
          rw (w.result-is, w.self-inside-is) (subst (old_is new w.edit_in_place.result) old e)
    ]
