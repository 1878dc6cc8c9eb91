use Rattle.std.proofs.Common.{sym, subst, arith}
use Rattle.std.specs.Option.{IfSome}
use Rattle.std.specs.Iterator.{UpTo, at_most}
use Rattle.merge.proofs.placed.PlacedStretchesIterator.TheImpl.Goals as goal

pub size_hint-tells : goal.size_hint-tells
size_hint-tells g x c =
    let left = at_most c.args.self.now.left in
    record {
      lower = λ f. omega (arith, c.ensures.least);
      upper = subst (λ o. IfSome o (UpTo left)) (sym c.ensures.most) (tt, omega arith);
    }
