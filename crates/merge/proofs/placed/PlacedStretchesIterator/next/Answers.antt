use Rattle.std.proofs.Common.{◌+◌, ◌-◌, ◌≤◌, sym, subst, arith}
use Rattle.merge.specs.Placed.{IsPlaced, PassesPlaced, Placed}
use Rattle.merge.proofs.PlacedLemmas.{passes_next, placed_next}
use Rattle.merge.proofs.placed.PlacedStretchesIterator.next.Goals as goal

pub invariant_of-self-2 : goal.invariant_of-self-2
invariant_of-self-2 c =
    let inside = c.self.inside in
    let next = c.next_stretch-stretch in
    let n : c.count-count.result ≤ inside.left = omega (arith, c.count-count.ensures, next.ensures.most) in (
      subst (λ m. IsPlaced inside.layers (inside.rid + m) next.new.self) (sym c.count-count.ensures)
          (placed_next inside.layers inside.rid inside.left inside.rows next.new.self next.result c.self.invariant.0 next.ensures.stretch
          next.ensures.rows next.ensures.most next.ensures.cursors next.ensures.over next.ensures.alike),
      omega (arith, n, c.self.invariant.1),
      c.self.invariant.2,
    )

pub returns-clause-steps : goal.returns-clause-steps
returns-clause-steps c =
    let inside = c.self.inside in
    let next = c.next_stretch-stretch in
    subst (λ (p : Placed). PassesPlaced p next.result
    (record { stack = inside.layers; rid = inside.rid + c.count-count.result; left = inside.left - c.count-count.result })) c.self.view_is
    (subst (λ n. PassesPlaced (record { stack = inside.layers; rid = inside.rid; left = inside.left }) next.result
    (record { stack = inside.layers; rid = inside.rid + n; left = inside.left - n })) (sym c.count-count.ensures)
    (passes_next inside.layers inside.rid inside.left inside.rows next.new.self next.result c.self.invariant.0 next.ensures.stretch
    next.ensures.rows next.ensures.most next.ensures.cursors next.ensures.over next.ensures.alike))
