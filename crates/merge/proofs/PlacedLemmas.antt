-- Stretches of a range, over the stable rows and over any others.
use Rattle.std.proofs.Common.{◌≡◌, ◌∙◌, ℕ, ◌+◌, ◌≤◌, List, [], ◌∷◌, ◌++◌, length, drop, refl, sym, ap, subst, arith}
use Rattle.std.proofs.lemmas.List.{drop-drop}
use Rattle.values.specs.declared.row.Row.{Row}
use Rattle.merge.specs.Image.{Stack, image_rows, stack_over}
use Rattle.merge.specs.Left.{AreAlike, AreCursors, image_left, image_over}
use Rattle.merge.specs.Placed.{IsPlaced, PassesPlaced, placed_past}
use Rattle.merge.specs.Stretches.{IsStretch, PassesOver, stretch_over, stretch_rows}
use Rattle.merge.specs.declared.image.Image.{Image}
use Rattle.merge.specs.declared.stretch.Stretch.{Stretch}
use Rattle.merge.proofs.StretchLemmas.{take_append, stretch_some}
use Rattle.std.proofs.lemmas.Grind.{common_steps}

drop_append : {X : Type 0} (xs ys : List X) → drop (length xs) (xs ++ ys) ≡ ys
drop_append [] ys = refl
drop_append (x ∷ xs) ys = drop_append xs ys

split : {X : Type 0} (x y : X) (xs ys : List X) → x ∷ xs ≡ y ∷ ys → (x ≡ y) × (xs ≡ ys)
split x y xs ys e = (cc, cc)

-- lists of one length that begin the same list are the same
same_heads : {X : Type 0} (xs ys us vs : List X) → length xs ≡ length ys → xs ++ us ≡ ys ++ vs → xs ≡ ys
same_heads [] [] us vs same is = refl
same_heads [] (y ∷ ys) us vs same is = absurd (omega arith)
same_heads (x ∷ xs) [] us vs same is = absurd (omega arith)
same_heads (x ∷ xs) (y ∷ ys) us vs same is =
    let shorter : length xs ≡ length ys = omega arith in
    let parts = split x y (xs ++ us) (ys ++ vs) is in
    let rest = same_heads xs ys us vs shorter parts.1 in
    λ i. parts.0 i ∷ rest i

-- what a walk that was placed goes on to
module _ (stack : Stack) (rid left : ℕ) (old new : Image) (stretch : Stretch) (h : IsPlaced stack rid old)
    (is : IsStretch 3 stretch) (rows : image_left old ≡ stretch_rows stretch ++ image_left new)
    (most : length (stretch_rows stretch) ≤ left) (cursors : AreCursors new)
    (over : (base : List Row) → AreAlike base old → PassesOver base (image_over base old) stretch (image_over base new))
    (alike : (base : List Row) → AreAlike base old → AreAlike base new) where
  abbrev count : ℕ
  count = length (stretch_rows stretch)

  next_over : (base : List Row) → length base ≡ length stack.rows
      → PassesOver base (drop rid (image_rows (stack_over base stack))) stretch (image_over base new)
  next_over base same =
      subst (λ (xs : List Row). PassesOver base xs stretch (image_over base new)) (h.over base same) (over base (h.alike base same))

  past : (all own rest : List Row) → all ≡ own ++ rest → length own ≡ count → rest ≡ drop count all
  past all own rest e size = sym (drop_append own rest) ∙ ap (drop (length own)) (sym e) ∙ ap (λ n. drop n all) size

  image_over_new : (base : List Row) → length base ≡ length stack.rows
      → image_over base new ≡ drop (rid + count) (image_rows (stack_over base stack))
  image_over_new base same =
      let next = next_over base same in
      let all : List Row = drop rid (image_rows (stack_over base stack)) in
      past all (stretch_over base stretch) (image_over base new) next.rows next.count
      ∙ drop-drop count rid (image_rows (stack_over base stack))

  pub placed_next : IsPlaced stack (rid + count) new
  placed_next = record {
    cursors = cursors;
    rows =
        past (image_left old) (stretch_rows stretch) (image_left new) rows refl
        ∙ ap (drop count) h.rows
        ∙ drop-drop count rid (image_rows stack);
    alike = λ base same. alike base (h.alike base same);
    over = image_over_new;
  }

  pub passes_next : PassesPlaced (record { stack = stack; rid = rid; left = left }) stretch
      (placed_past count (record { stack = stack; rid = rid; left = left }))
  passes_next = grind (arith, common_steps, stretch_some, same_heads, next_over, take_append, image_over_new)
