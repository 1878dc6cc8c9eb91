use Rattle.std.proofs.Common.{[], List, sym, ap, subst, arith}
use Rattle.manager.specs.Managed.{Managed}
use Rattle.publishing.specs.declared.item.Item.{Item}
use Rattle.publishing.specs.Lists.{IsListed}
use Rattle.publishing.proofs.CallerLemmas.{listed_at_opening}
use Rattle.shared.specs.Endings.{GoesOn}
use Rattle.shared.proofs.EndingLemmas.{goes_on-self}
use Rattle.shared.proofs.locked.Locked.new.Goals as goal

pub invariant_of-result : goal.invariant_of-result
invariant_of-result g c =
    let o = g.O.Opening.opened.manager in
    let m = c.args.manager in
    let r = c.requires.opening in
    let none = subst (λ (n : Managed). IsListed o [] n) r.1 (listed_at_opening o) in
    let made = ap (λ (n : Managed). n.made) r.1 in (
      subst (λ (l : List Item). IsListed o l m) (sym r.0) none,
      omega (arith, made, c.requires.book.0),
      (c.requires.book.1, c.requires.book.2),
      c.requires.store,
      subst (λ (n : Managed). GoesOn o n) r.1 (goes_on-self o),
    )
