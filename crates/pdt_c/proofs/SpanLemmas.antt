-- Bytes for the columns of a row, and spans of an image, one after the other.
use Rattle.std.proofs.Common.{◌≡◌, ◌∙◌, ℕ, zero, suc, ◌+◌, ◌<◌, ◌≤◌, List, [], ◌∷◌, ◌++◌, Some, length, take, drop, set, get_or, refl, sym, ap, subst, arith}
use Rattle.std.proofs.Common.{length-take, length-drop}
use Rattle.std.specs.Prelude.{slice_get, slice_set}
use Rattle.values.specs.declared.row.Row.{Row}
use Rattle.merge.specs.Image.{Stack, image_rows, stack_over}
use Rattle.merge.specs.Placed.{PassesPlaced, Placed, placed_rows}
use Rattle.merge.specs.Stretches.{IsStretch, stretch_over, stretch_rows}
use Rattle.merge.specs.View.{layer_cells, own_cells, row_over, source_over}
use Rattle.model.specs.Effects.{Cells, set_cells}
use Rattle.merge.specs.declared.stretch.Stretch.{Stretch}
use Rattle.merge.specs.declared.stretch.Stretch.TheVariants.{Stable, Row as One}
use Rattle.merge.specs.declared.stretch.StableStretch.{StableStretch}
use Rattle.merge.specs.declared.view.RowView.{RowView}
use Rattle.model.specs.Table.{rows_of}
use Rattle.txn.specs.Txn.{Transaction, image_of}
use Rattle.merge.proofs.CallerLemmas.{drop-at}
use Rattle.pdt_c.specs.Spans.{AreSpans, HandsOwn, IsSpan, IsSpanOf, TellsFirst, TellsOwn}
use Rattle.pdt_c.specs.declared.calls.stretches.Span.{Span}
use Rattle.pdt_c.specs.declared.calls.stretches.TheConstants.{CHANGED}

-- ---- bytes

-- what holds of the byte at a place, where one more is put
pub put_byte : (P : ℕ → Type 0) (xs : List ℕ) (i j b d : ℕ) → P d → (j < i → P (get_or xs j d)) → (j ≡ i → P b) → j < i + 1
    → P (get_or (set xs i b) j d)
put_byte P [] i j b d past h own lt = past
put_byte P (x ∷ xs) zero zero b d past h own lt = own refl
put_byte P (x ∷ xs) zero (suc j) b d past h own lt = absurd (omega (arith, lt))
put_byte P (x ∷ xs) (suc i) zero b d past h own lt = h (omega arith)
put_byte P (x ∷ xs) (suc i) (suc j) b d past h own lt =
    put_byte P xs i j b d past (λ l. h (omega (arith, l))) (λ e. own (ap suc e)) (omega (arith, lt))

pub byte_past : (xs : List ℕ) (b : ℕ) → ((j : ℕ) → j < length xs → get_or xs j b ≡ b) → (j : ℕ) → get_or xs j b ≡ b
byte_past [] b h j = refl
byte_past (x ∷ xs) b h zero = h 0 (omega arith)
byte_past (x ∷ xs) b h (suc j) = byte_past xs b (λ k l. h (suc k) (omega (arith, l))) j

-- ---- spans

take_within : {X : Type 0} (n m : ℕ) (xs : List X) → n ≤ m → take n (take m xs) ≡ take n xs
take_within zero m xs le = refl
take_within (suc n) zero xs le = absurd (omega (arith, le))
take_within (suc n) (suc m) [] le = refl
take_within (suc n) (suc m) (x ∷ xs) le = ap (λ ys. x ∷ ys) (take_within n m xs (omega (arith, le)))

take_own : {X : Type 0} (own rest : List X) → take (length own) (own ++ rest) ≡ own
take_own [] rest = refl
take_own (x ∷ own) rest = ap (λ xs. x ∷ xs) (take_own own rest)

-- the first rows of those that are left
pub lead : {X : Type 0} (left n : ℕ) (xs own rest : List X) → take left xs ≡ own ++ rest → length own ≡ n → n ≤ left → take n xs ≡ own
lead left n xs own rest is size le =
    sym (take_within n left xs le) ∙ ap (take n) is ∙ ap (λ m. take m (own ++ rest)) (sym size) ∙ take_own own rest

-- as many rows in a stretch, over any stable rows that are as many
pub length-over : (base rows : List Row) (stretch : Stretch) → IsStretch 3 stretch → length base ≡ length rows
    → stretch_over rows stretch ≡ stretch_rows stretch → length (stretch_over base stretch) ≡ length (stretch_rows stretch)
length-over base rows (Stable s) is same own =
    omega (
      arith,
      same,
      is.some,
      is.within,
      ap length own,
      length-take s.len (drop s.sid base),
      length-take s.len (drop s.sid rows),
      length-take s.len (drop s.sid s.table.now.rows),
      length-drop s.sid base,
      length-drop s.sid rows,
      length-drop s.sid s.table.now.rows,
    )
length-over base rows (One view) is same own = refl

-- the rows of a stretch stand at its position
module _ (old new : Placed) (stretch : Stretch) (p : PassesPlaced old stretch new) where
  pub stands_there : (base : List Row) → length base ≡ length old.stack.rows
      → take (length (stretch_rows stretch)) (drop old.rid (image_rows (stack_over base old.stack))) ≡ stretch_over base stretch
  stands_there base same =
      lead old.left (length (stretch_rows stretch)) (drop old.rid (image_rows (stack_over base old.stack))) (stretch_over base stretch)
      (placed_rows base new) (p.over base same) (length-over base old.stack.rows stretch p.is same p.own) p.few

  pub is_span : (span : Span) → IsSpanOf stretch old.rid span → IsSpan old.stack span
  is_span span h =
      let there = λ (base : List Row) (same : length base ≡ length old.stack.rows).
      (λ i. take (h.rows_are i) (drop (h.position_is i) (image_rows (stack_over base old.stack)))) ∙ stands_there base same in
      record {
        some = omega (arith, p.some, h.rows_are);
        stable = λ kind base same. there base same ∙ h.stable kind base;
        known = h.known;
        one = h.one;
        changed = λ kind.
            let row = h.changed kind in (
              row.0,
              λ base same.
                  (λ i. take (sym (h.one (λ k. differ span.source kind k)) i) (drop span.position (image_rows (stack_over base old.stack))))
                  ∙ there base same
                  ∙ row.1 base,
            );
        inserted = λ kind base same.
            let one = λ (b : List Row) (e : length b ≡ length old.stack.rows).
            (λ i. take (sym (h.one (λ k. apart span.source kind k)) i) (drop span.position (image_rows (stack_over b old.stack)))) ∙ there b e in
            one base same
            ∙ h.inserted kind base
            ∙ sym (one old.stack.rows refl ∙ h.inserted kind old.stack.rows);
      }
    where
      apart : (kind : ℕ) → kind ≡ 3 → kind ≡ 1 → ⊥
      apart kind a b = omega (arith, a, b)

      differ : (kind : ℕ) → kind ≡ 2 → kind ≡ 1 → ⊥
      differ kind a b = omega (arith, a, b)

set_cells-append : (xs ys : Cells) (row : Row) → set_cells (xs ++ ys) row ≡ set_cells ys (set_cells xs row)
set_cells-append [] ys row = refl
set_cells-append (c ∷ xs) ys row = set_cells-append xs ys (slice_set row c.0 c.1)

-- the span of a row over a stable one
pub changed_span : (view : RowView) (position sid : ℕ) → ((base : List Row) → source_over base view.source ≡ get_or base sid [])
    → IsSpanOf (One view) position (record { position = position; rows = 1; sid = sid; source = CHANGED })
changed_span view position sid over =
    record {
      position_is = refl;
      rows_are = refl;
      stable = λ kind. absurd (omega (arith, kind));
      known = λ unstable unchanged. absurd (unchanged refl);
      one = λ kind. refl;
      changed = λ kind. (
        own_cells view,
        λ base.
            let source = source_over base view.source in
            ap (λ (row : Row). row ∷ [])
            (sym (set_cells-append (layer_cells view.read) (layer_cells view.write ++ layer_cells view.trans) source
            ∙ set_cells-append (layer_cells view.write) (layer_cells view.trans) (set_cells (layer_cells view.read) source))
            ∙ ap (set_cells (own_cells view)) (over base)),
      );
      inserted = λ kind. absurd (omega (arith, kind));
    }

-- one span more
pub spans_more : (stack : Stack) (rid : ℕ) (spans : List Span) (end : ℕ) (span : Span) → AreSpans stack rid spans end → span.position ≡ end
    → IsSpan stack span → AreSpans stack rid (spans ++ span ∷ []) (end + span.rows)
spans_more stack rid [] end span are at is = (at ∙ sym are, is, ap (λ n. n + span.rows) are)
spans_more stack rid (s ∷ spans) end span are at is = (are.0, are.1, spans_more stack (rid + s.rows) spans end span are.2 at is)

-- ---- the row at a position

first_taken : (n : ℕ) (row : Row) (rest : List Row) → 0 < n → slice_get (take n (row ∷ rest)) 0 ≡ Some row
first_taken zero row rest some = absurd (omega (arith, some))
first_taken (suc n) row rest some = refl

-- the first of some rows from a place on is the row at the place
pub taken_first : (n k : ℕ) (rows : List Row) (row d : Row) → slice_get (take n (drop k rows)) 0 ≡ Some row → get_or rows k d ≡ row
taken_first zero k rows row d is = cc
taken_first (suc n) zero [] row d is = cc
taken_first (suc n) zero (x ∷ rows) row d is = cc
taken_first (suc n) (suc k) [] row d is = cc
taken_first (suc n) (suc k) (x ∷ rows) row d is = taken_first (suc n) k rows row d is

pub one_first : (x row : Row) → slice_get (x ∷ []) 0 ≡ Some row → x ≡ row
one_first x row is = cc

-- what a stretch's first row tells of the stable rows
pub told_stable : (stretch : Stretch) (s : StableStretch) → stretch ≡ Stable s → (base : List Row) → (row : Row)
    → slice_get (stretch_over base stretch) 0 ≡ Some row → (col : ℕ) → slice_get row col ≡ slice_get (get_or base s.sid []) col
told_stable stretch s is base row first col =
    ap (λ (r : Row). slice_get r col)
    (sym (taken_first s.len s.sid base row [] (subst (λ (x : Stretch). slice_get (stretch_over base x) 0 ≡ Some row) is first)))

-- a byte that is 0 everywhere isn't another
pub first_stable : (stretch : Stretch) (s : StableStretch) → stretch ≡ Stable s → (bytes : List ℕ) → ((col : ℕ) → get_or bytes col 0 ≡ 0)
    → TellsFirst stretch s.sid bytes
first_stable stretch s is bytes none = record {
  kept = λ base row first col unset. told_stable stretch s is base row first col;
  own = λ base other row that first second wide col some. absurd (some (none col));
}

first_row : (stretch : Stretch) (view : RowView) → stretch ≡ One view → (base : List Row) (row : Row)
    → slice_get (stretch_over base stretch) 0 ≡ Some row → row_over base view ≡ row
first_row stretch view is base row first =
    one_first (row_over base view) row (subst (λ (x : Stretch). slice_get (stretch_over base x) 0 ≡ Some row) is first)

pub first_changed : (stretch : Stretch) (view : RowView) → stretch ≡ One view → (sid : ℕ) (bytes : List ℕ) → TellsOwn view sid bytes
    → TellsFirst stretch sid bytes
first_changed stretch view is sid bytes told = record {
  kept = λ base row first col unset.
      ap (λ (r : Row). slice_get r col) (sym (first_row stretch view is base row first)) ∙ told.kept base col unset;
  own = λ base other row that first second wide col some.
      let one = first_row stretch view is base row first in
      let two = first_row stretch view is other that second in
      ap (λ (r : Row). slice_get r col) (sym one)
      ∙ told.own base other (ap length one ∙ wide ∙ sym (ap length two)) col some
      ∙ ap (λ (r : Row). slice_get r col) two;
}

module _ (old new : Placed) (stretch : Stretch) (p : PassesPlaced old stretch new) where
  pub first_there : (base : List Row) → length base ≡ length old.stack.rows → (row : Row)
      → slice_get (image_rows (stack_over base old.stack)) old.rid ≡ Some row → slice_get (stretch_over base stretch) 0 ≡ Some row
  first_there base same row is =
      let rows = image_rows (stack_over base old.stack) in
      ap (λ (xs : List Row). slice_get xs 0)
      (sym (stands_there old new stretch p base same) ∙ ap (take (length (stretch_rows stretch))) (drop-at rows old.rid row is))
      ∙ first_taken (length (stretch_rows stretch)) row (drop (old.rid + 1) rows) p.some

  pub hands_own : (txn : Transaction) (rid sid : ℕ) (bytes : List ℕ) → image_rows old.stack ≡ rows_of (image_of txn) → old.rid ≡ rid
      → TellsFirst stretch sid bytes → HandsOwn txn rid sid bytes
  hands_own txn rid sid bytes image at told =
      let there = λ (base : List Row) (same : length base ≡ length old.stack.rows) (row : Row)
      (is : slice_get (image_rows (stack_over base old.stack)) rid ≡ Some row).
      first_there base same row (subst (λ n. slice_get (image_rows (stack_over base old.stack)) n ≡ Some row) (sym at) is) in
      record {
        stack = old.stack;
        image = image;
        kept = λ base same row is. told.kept base row (there base same row is);
        own = λ some base other same alike row that is also.
            told.own base other row that (there base same row is) (there other alike that also);
      }
