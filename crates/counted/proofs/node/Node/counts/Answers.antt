use Rattle.std.proofs.Common.{length, ap, sym, ◌∙◌, arith}
use Rattle.std.proofs.lemmas.Int.{ints}
use Rattle.counted.specs.Shapes.{all_items}
use Rattle.counted.specs.Sums.{total}
use Rattle.counted.proofs.Places.{at_inner}
use Rattle.counted.proofs.node.Node.counts.Goals as goal

pub returns-in-Inner : goal.returns-in-Inner
returns-in-Inner c =
    let at = at_inner c.self.view_is c.self.invariant c.in-Inner.is in
    let n = ap length at.items in
    let net = c.net_of.ensures ∙ ap (λ cs. total (all_items cs)) c.deref-in-Inner-2.ensures.value ∙ sym (ap total at.items) in
    record {
      count = c.count_of.ensures ∙ ap (λ cs. length (all_items cs)) c.deref-in-Inner.ensures.value ∙ sym n;
      net = omega (arith, ints);
    }
