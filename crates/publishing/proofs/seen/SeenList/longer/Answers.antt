use Rattle.std.proofs.Common.{◌<◌, ◌≤◌, ap, subst, sym, ◌∙◌, arith, length, List}
use mathlib.Core.List.{IsPrefix}
use Rattle.publishing.specs.declared.item.Item.{Item}
use Rattle.publishing.specs.Lists.{items_in}
use Rattle.publishing.proofs.Beginnings.{prefix_shorter, items_in-prefix}
use Rattle.publishing.proofs.seen.SeenList.longer.Goals as goal

pub returns-then-self-other-clause-this : goal.returns-then-self-other-clause-this
returns-then-self-other-clause-this c =
    let s = c.self.inside.seen.log in
    let o = c.other.inside.seen.log in
    let both = c.learn.new.self.log in
    let i = c.self.invariant.0 in
    let j = c.other.invariant.0 in
    let this : IsPrefix s both = subst (λ (l : List Item). IsPrefix l both) (ap (λ s. s.log) c.again-both.ensures) c.learn.ensures.2 in
    let less : length s ≤ length o = omega (arith, i, j) in
    let some : 0 < length s = omega (arith, i) in
    let p = items_in-prefix s o some (prefix_shorter s o both this c.learn.ensures.3 less) in
    let q : IsPrefix c.args.self.now.list (items_in o) =
    subst (λ (l : List Item). IsPrefix l (items_in o)) (ap (λ k. k.list) c.self.view_is) p in
    subst (λ (l : List Item). IsPrefix c.args.self.now.list l) (ap (λ k. k.list) c.other.view_is ∙ sym (ap (λ k. k.list) c.again.ensures)) q

pub returns-clause-that : goal.returns-clause-that
returns-clause-that c =
    let s = c.self.inside.seen.log in
    let o = c.other.inside.seen.log in
    let both = c.learn.new.self.log in
    let i = c.self.invariant.0 in
    let j = c.other.invariant.0 in
    let this : IsPrefix s both = subst (λ (l : List Item). IsPrefix l both) (ap (λ s. s.log) c.again-both.ensures) c.learn.ensures.2 in
    let less : length o ≤ length s = omega (arith, i, j) in
    let some : 0 < length o = omega (arith, j) in
    let p = items_in-prefix o s some (prefix_shorter o s both c.learn.ensures.3 this less) in
    let q : IsPrefix c.args.other.now.list (items_in s) =
    subst (λ (l : List Item). IsPrefix l (items_in s)) (ap (λ k. k.list) c.other.view_is) p in
    subst (λ (l : List Item). IsPrefix c.args.other.now.list l)
    (ap (λ k. k.list) c.self.view_is ∙ sym (ap (λ k. k.list) c.again-else-self-other.ensures)) q
