-- Each step keeps the rule.
use Rattle.std.proofs.Common.{◌≡◌, ◌≢◌, ℕ, zero, suc, ◌≤◌, List, [], ◌∷◌, set, true, false, true≢false, refl, sym, ◌∙◌, subst, ⊎_elim, arith}
use Rattle.std.specs.Prelude.{slice_index}
use mathlib.Core.Option.{some, some-ne-none, some-injective}
use lib.ListN.{get_elem?}
use Rattle.crossbeam_utils.specs.Register.{Turns, Forks, Merges}
use Rattle.atomic_table.proofs.Lists.{at_set, at_snoc, set_again}
use Rattle.watermark.specs.declared.cell.View.{View}
use Rattle.watermark.specs.Views.{writer_at, reader_at, with_claim, Fits, IsHighest, Advanced, Loaded, Compared}

off : false ≡ true → ⊥
off e = true≢false (sym e)

fits_set : (seat watermark now : ℕ) (views : List View) (by : ℕ) (w : View)
    → ((j : ℕ) (u : View) → j ≢ by → get_elem? views j ≡ some u → Fits seat now j u) → Fits seat now by w
    → (j : ℕ) (u : View) → get_elem? (set views by w) j ≡ some u → Fits seat now j u
fits_set seat watermark now views by w others mine j u e =
    ⊎_elim
    (λ (x : (j ≡ by) × (w ≡ u)). subst (λ (y : ℕ × View). Fits seat now y.0 y.1) (λ i. (sym x.0 i, x.1 i)) mine)
    (λ (x : (j ≢ by) × (get_elem? views j ≡ some u)). others j u x.0 x.1)
    (at_set views by j w u e)

pub writes : (by n : ℕ) (new : List ℕ) → n ≤ slice_index new 0 → Turns IsHighest by (writer_at n) (λ _. new) Advanced
writes by n new le words views h at =
    let mine = (h.1 by (writer_at n) at).0 refl in
    let to = slice_index new 0 in
    let up : slice_index words 0 ≤ to = omega (arith, le, mine.1) in (
      writer_at to,
      (
        h.0,
        fits_set h.0 (slice_index words 0) to views by (writer_at to)
            (λ j u apart e.
            let f = h.1 j u e in
            let low = f.1 in
            let claim = f.2 in
            ((λ k. absurd (apart ((f.0 k).0 ∙ sym mine.0))), (omega (arith, low, up)), (omega (arith, claim, up))))
            ((λ _. (mine.0, refl)), (omega arith), (omega arith)),
      ),
      refl,
    )

pub loads : (by n : ℕ) → Turns IsHighest by (reader_at n) (λ x. x) Loaded
loads by n words views h at =
    let mine = h.1 by (reader_at n) at in
    let watermark = slice_index words 0 in (
      reader_at watermark,
      (h.0, fits_set h.0 watermark watermark views by (reader_at watermark) (λ j u apart e. h.1 j u e) ((λ k. absurd (off k)), (omega arith), (omega arith))),
      (refl, mine.1),
    )

pub compares : (by : ℕ) (v : View) → v.writes ≡ true → Turns IsHighest by v (λ x. x) Compared
compares by v writes words views h at =
    let mine = h.1 by v at in
    let known = mine.0 writes in
    let watermark = slice_index words 0 in
    let claim = mine.2 in
    let low = mine.1 in (
      writer_at v.number,
      (
        h.0,
        fits_set h.0 watermark watermark views by (writer_at v.number) (λ j u apart e. h.1 j u e) ((λ _. known), (omega (arith, low)), (omega arith)),
      ),
      (refl, (let e = known.1 in omega (arith, e, claim))),
    )

-- a pass is cut in two, of which one is a reader
pub gives : (by : ℕ) (v : View) → Forks IsHighest by v v (reader_at v.number)
gives by v words views h at =
    let mine = h.1 by v at in
    let watermark = slice_index words 0 in (
      h.0,
      λ j u e. ⊎_elim
          (λ was. h.1 j u (subst (λ l. get_elem? l j ≡ some u) (set_again views by v at) was))
          (λ (same : reader_at v.number ≡ u).
          subst (Fits h.0 watermark j) same ((λ k. absurd (off k)), mine.1, (omega arith)))
          (at_snoc (set views by v) (reader_at v.number) u j e),
    )

pub takes_in : (by n other : ℕ) (u : View) → Merges IsHighest by (writer_at n) other u (with_claim (writer_at n) u) (reader_at 0)
takes_in by n other u words views h at apart there =
    let w = with_claim (writer_at n) u in
    let watermark = slice_index words 0 in
    let mine = h.1 by (writer_at n) at in
    let theirs = ⊎_elim (λ (t : (other ≡ by) × (w ≡ u)). absurd (apart t.0)) (λ (t : (other ≢ by) × (get_elem? views other ≡ some u)). h.1 other u t.1)
    (at_set views by other w u there) in (
      h.0,
      fits_set h.0 watermark watermark (set views by w) other (reader_at 0)
          (λ j v _ e. fits_set h.0 watermark watermark views by w (λ i y _ e'. h.1 i y e') (mine.0, mine.1, theirs.1) j v e)
          ((λ k. absurd (off k)), (omega arith), (omega arith)),
    )

-- the moves, at a view that is known
pub advances_as : (by : ℕ) (v : View) (n : ℕ) (new : List ℕ) → v ≡ writer_at n → n ≤ slice_index new 0 → Turns IsHighest by v (λ _. new) Advanced
advances_as by v n new is le = subst (λ (u : View). Turns IsHighest by u (λ _. new) Advanced) (sym is) (writes by n new le)

pub loads_as : (by : ℕ) (v : View) (n : ℕ) → v ≡ reader_at n → Turns IsHighest by v (λ x. x) Loaded
loads_as by v n is = subst (λ (u : View). Turns IsHighest by u (λ x. x) Loaded) (sym is) (loads by n)

pub takes_in_as : (by : ℕ) (v : View) (n other : ℕ) (u : View) → v ≡ writer_at n → Merges IsHighest by v other u (with_claim v u) (reader_at 0)
takes_in_as by v n other u is = subst (λ (x : View). Merges IsHighest by x other u (with_claim x u) (reader_at 0)) (sym is) (takes_in by n other u)
