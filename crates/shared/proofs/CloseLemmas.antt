-- What sessions and the manager have in common at the end.
use Rattle.std.proofs.Common.{◌≡◌, ℕ, zero, suc, ◌-◌, List, [], ◌∷◌, drop, refl, sym, ap, subst}
use Rattle.std.specs.Prelude.{All, get_or}
use mathlib.Core.List.{IsPrefix}
use Rattle.model.specs.History.{Start}
use Rattle.manager.specs.Managed.{Managed}
use Rattle.publishing.specs.declared.item.Item.{Item}
use Rattle.publishing.specs.Commits.{Commit, commits_made}
use Rattle.publishing.specs.Lists.{all_commits, IsListed}
use Rattle.publishing.proofs.CallerLemmas.{all_commits-prefix}
use Rattle.shared.specs.Endings.{AreOfOneList}
use Rattle.shared.specs.Sessions.{Seat, AreBeginnings, commits_above}

prefix_drop : {A : Type 0} (n : ℕ) (xs ys : List A) → IsPrefix xs ys → IsPrefix (drop n xs) (drop n ys)
prefix_drop zero xs ys p = p
prefix_drop (suc n) [] ys p = (drop (suc n) ys, refl)
prefix_drop (suc n) (x ∷ xs) [] p = absurd (cc (p.1))
prefix_drop (suc n) (x ∷ xs) (y ∷ ys) p = prefix_drop n xs ys (p.0, cc (p.1))

-- of two beginnings of one list, the commits above a base are beginnings of those of the whole
pub are_beginnings : (o : Managed) (seen list both : List Item) (m : Managed) → IsListed o list m → IsPrefix seen both
    → IsPrefix list both →
    AreBeginnings (commits_above o seen m.start.base) (commits_made m)
are_beginnings o seen list both m l p q =
    let n = m.start.base - o.start.base in
    let base = ap (λ (s : Start). s.base - o.start.base) l.start in
    let made : commits_made m ≡ drop n (all_commits o list) =
    subst (λ k. commits_made m ≡ drop k (all_commits o list)) (sym base) l.commits in (
      drop n (all_commits o both),
      prefix_drop n (all_commits o seen) (all_commits o both) (all_commits-prefix o seen both p),
      subst (λ (cs : List Commit). IsPrefix cs (drop n (all_commits o both))) (sym made)
          (prefix_drop n (all_commits o list) (all_commits o both) (all_commits-prefix o list both q)),
    )

-- and those of each session
pub all_are_beginnings : (o : Managed) (list : List Item) (m : Managed) → IsListed o list m → (seats : List Seat)
    → All (λ (s : Seat). AreOfOneList s.seen list) seats →
    All (λ (s : Seat). AreBeginnings (commits_above o s.seen m.start.base) (commits_made m)) seats
all_are_beginnings o list m l seats seen k d inside =
    let one = seen k d inside in
    are_beginnings o (get_or seats k d).seen list one.0 m l one.1 one.2
