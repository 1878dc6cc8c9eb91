use Rattle.std.proofs.Common.{◌^◌, ◌≤◌, length, slice_get, ap, sym, ◌∙◌, subst, arith}
use Rattle.std.proofs.lemmas.Int.{ints}
use Rattle.counted.specs.declared.node.TheConstants.{MAX_WIDTH, MIN_WIDTH}
use Rattle.counted.specs.Sums.{total}
use Rattle.counted.specs.Views.{View}
use Rattle.counted.proofs.node.Child.new.Goals as goal

pub returns-clause-counts : goal.returns-clause-counts
returns-clause-counts c =
    let counts = c.counts-counts.ensures in
    let sized = c.lead-lead.ensures.sized in
    let node = c.in_ok-new.ensures.ok in
    record {
      level = ap (λ (v : View). v.depth) node;
      full = omega (arith, ap (λ (v : View). v.width) node, c.requires.full);
      deep = sized.deep;
      many = let P : View → Type 0 = λ v. MIN_WIDTH ^ c.args.node.depth ≤ length v.items in subst P (sym node) sized.many;
      most = let P : View → Type 0 = λ v. length v.items ≤ MAX_WIDTH ^ c.args.node.depth in subst P (sym node) sized.most;
      count = counts.count ∙ sym (ap (λ (v : View). length v.items) node);
      net = omega (arith, ints, ap (λ (v : View). total v.items) node);
      lead = λ e first. c.lead-lead.ensures.lead e (ap (λ (v : View). slice_get v.items 0) (sym node) ∙ first);
    }
