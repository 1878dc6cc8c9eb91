-- The exchange that adds an item keeps the rule.
use Rattle.std.proofs.Common.{◌≡◌, ℕ, ◌+◌, ◌<◌, ◌==◌, Bool, true, false, List, [], ◌∷◌, ◌++◌, length, refl, ap, sym, ◌∙◌, subst, arith, inl, length-append, None}
use Rattle.std.proofs.lemmas.List.{append-nil}
use Rattle.std.proofs.lemmas.Bool.Decides.{nat_tests}
use mathlib.Core.List.{IsPrefix}
use prog.Atomic.{either}
use Rattle.logbook.specs.Pages.{Cell, cell, keeps, no_nib, step, Moves, Goes}
use Rattle.publishing.specs.declared.item.Item.{Item}
use Rattle.publishing.specs.Rules.{IsCounted, Adds}
use Rattle.publishing.proofs.Beginnings.{prefix_whole}

abbrev pub shown : List Item → List Item
shown log = []

abbrev pub moved : List Item → List Item → ℕ → Type 0
moved xs ys n = Unit {0}

adds_goes : (log v : List Item) (e : Item) (old n : ℕ) → length log ≡ n + 1 → length v ≡ old + 1 → IsPrefix v log
    → (b : Bool) → (n == old) ≡ b
    → Goes IsCounted shown moved 0 (v, (no_nib, None)) (λ n. either (n == old) (old + 1) n)
    (Adds (step 0 old (old + 1) e) (v, (no_nib, None))) ((n, true) ∷ []) log
adds_goes log v e old n long len pre true is =
    let here : n ≡ old = grind (arith, nat_tests) in
    let same : v ≡ log = prefix_whole v log pre (omega arith) in
    let m : either (n == old) (old + 1) n ≡ n + 1 = rw is (omega arith) in (
      keeps,
      e ∷ [],
      None,
      tt,
      (either (n == old) (old + 1) n, omega (arith, length-append log (e ∷ []), m), refl),
      inl (refl, refl),
      rw is (ap (λ w. w ++ e ∷ []) (sym same)),
    )
adds_goes log v e old n long len pre false is =
    let m : either (n == old) (old + 1) n ≡ n = rw is refl in (
      keeps,
      [],
      None,
      tt,
      (either (n == old) (old + 1) n, ap (λ (l : List Item). length l) (append-nil log) ∙ long ∙ ap (λ k. k + 1) (sym m), refl),
      inl (refl, refl),
      rw is tt,
    )

pub adds_moves : (v : List Item) (e : Item) (old : ℕ) → length v ≡ old + 1
    → Moves IsCounted shown moved 0 (v, (no_nib, None)) (λ n. either (n == old) (old + 1) n)
    (Adds (step 0 old (old + 1) e) (v, (no_nib, None)))
adds_moves v e old len cs log kept pre away =
    let P : List Cell → Type 0 =
    λ c. (0 < length c) × ((cell c 0).1 ≡ true)
    × Goes IsCounted shown moved 0 (v, (no_nib, None)) (λ n. either (n == old) (old + 1) n)
    (Adds (step 0 old (old + 1) e) (v, (no_nib, None))) c log in
    subst P (sym kept.2) (omega arith, refl, adds_goes log v e old kept.0 kept.1 len pre (kept.0 == old) refl)
