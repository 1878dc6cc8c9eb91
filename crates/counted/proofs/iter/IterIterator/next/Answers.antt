use Rattle.std.proofs.Common.{◌≡◌, ◌++◌, length, take, drop, ap, ◌∙◌, sym, arith}
use Rattle.std.proofs.lemmas.Bool.Decides.{nat_tests}
use Rattle.counted.proofs.Leaves.{refilled}
use Rattle.counted.proofs.iter.IterIterator.next.Goals as goal
use Rattle.counted.proofs.iter.IterIterator.next.Goals.{then-is_empty+then-self-gt0, else-is_empty}

pub returns-clause-steps : goal.returns-clause-steps
returns-clause-steps c =
    let now = c.if-is_empty.self-inside in
    let rest = take now.left (drop now.next now.tree.now.entries) in
    let shown = ap (λ xs. xs ++ rest) c.in_ok-first.ensures.cases.0 in
    elim c.if-is_empty.branch [
      | then-is_empty+then-self-gt0 w ↦
          let none : length c.self.inside.leaf.now ≡ 0 = grind (arith, nat_tests, w.if-is_empty.ensures) in
          sym c.self.view_is
          ∙ refilled c.self.inside.leaf.now w.next_leaf.result.0.now c.self.inside.tree.now.entries c.self.inside.next
          c.self.inside.left none w.next_leaf.ensures.within w.next_leaf.ensures.rest
          ∙ sym (ap (λ i. i.leaf.now ++ take i.left (drop i.next i.tree.now.entries)) w.self-inside-is) ∙ shown
      | else-is_empty w ↦ sym c.self.view_is
          ∙ sym (ap (λ i. i.leaf.now ++ take i.left (drop i.next i.tree.now.entries)) w.self-inside-is) ∙ shown
    ]
