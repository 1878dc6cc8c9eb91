-- Numbers of a column, batch by batch.
use Rattle.std.proofs.Common.{w64, SFits, to_z, of_z, Some, None, slice_get, ◌≡◌, ◌∙◌, ℕ, zero, suc, ◌+◌, ◌-◌, ◌<◌, ◌≤◌, List, [], ◌∷◌, ◌++◌, append_assoc, length, map, take, drop, get_or, refl, sym, ap, subst, arith}
use Rattle.std.specs.Prelude.{ℤ, pos, Bool, IsTrue, cond, false, min, slice_set}
use Rattle.std.specs.List.{All}
use Rattle.std.proofs.lemmas.List.{drop-drop, length-append, length-map, length-take, map-append, take-append-le}
use Rattle.std.proofs.lemmas.List.Elements.{All-drop, All-head, All-map, All-same, All-weaker}
use Rattle.std.proofs.Math.Seq.{take-append_seam}
use Rattle.std.proofs.lemmas.Int.{to_z-of_z}
use Rattle.values.specs.declared.row.Row.{Row}
use Rattle.values.specs.declared.value.Value.{Value}
use Rattle.values.specs.Shape.{has_type}
use Rattle.values.specs.declared.value.Value.TheVariants.{Int, Text, Bool as Truth}
use Rattle.values.specs.declared.value.ColumnType.{ColumnType}
use Rattle.values.specs.declared.value.ColumnType.TheVariants as column
use Rattle.model.specs.Effects.{Cells, set_cells}
use Rattle.stable.specs.Rows.{column_values}
use Rattle.merge.specs.Cursor.{TreeCursor, InsertsNext, IsCursor, ModifiesNext, rows_left}
use Rattle.merge.specs.Filling.{FillsRows, HaveValues, IsWide}
use Rattle.merge.specs.Fitting.{StandsAt}
use Rattle.merge.specs.Packed.{AreNumbersOf, number_at, number_of}
use Rattle.merge.specs.ColumnStretches.{PassesRow}
use Rattle.merge.specs.View.{last_cell}
use Rattle.merge.proofs.ColumnStretchLemmas.{over_next, value-cell, value_or_false}
use Rattle.merge.proofs.StretchLemmas.{take_append}
use Rattle.merge.proofs.ViewLemmas.{or_else, slice_get-set_cells}
use Rattle.std.proofs.lemmas.Grind.{common_steps}

-- ---- numbers as values

is_own : (v : Value) → IsTrue (has_type column.Int v) → Int (number_of v) ≡ v
is_own (Int n) h = refl
is_own (Text t) h = cc h
is_own (Truth b) h = cc h

-- the numbers of rows in a column of numbers are its values
pub values_are : (col : ℕ) (rows : List Row) → HaveValues column.Int col rows → map Int (map (number_at col) rows) ≡ column_values col rows
values_are col [] have = refl
values_are col (row ∷ rows) have =
    let own = is_own (get_or row col (Truth false)) (have 0 row (omega arith)).typed in
    let rest = values_are col rows (λ k d lt. have (suc k) d (omega (arith, lt))) in
    λ i. own i ∷ rest i

-- the numbers of values, as a row has them in a column
pub numbers_values : (col : ℕ) (rows : List Row) → map number_of (column_values col rows) ≡ map (number_at col) rows
numbers_values col [] = refl
numbers_values col (row ∷ rows) = ap (λ ns. number_at col row ∷ ns) (numbers_values col rows)

-- and of values of a type
pub are_numbers_of : (ty : ColumnType) (col : ℕ) (rows : List Row) → HaveValues ty col rows
    → AreNumbersOf ty (column_values col rows) (map (number_at col) rows)
are_numbers_of ty col rows have =
    record {
      typed =
          All-map (λ value. IsTrue (has_type ty value)) (λ (row : Row). get_or row col (Truth false)) rows
          (All-weaker (StandsAt ty col) (λ row. IsTrue (has_type ty (get_or row col (Truth false)))) (λ row stands. stands.typed) rows have);
      numbers_are = sym (numbers_values col rows);
    }

-- ---- rows that are passed

pub fills_nothing : (col : ℕ) (rows : List Row) → FillsRows col rows [] rows
fills_nothing col rows = record { passed = []; rows = refl; numbers_are = refl }

pub fills_more : (col : ℕ) (old mid new : List Row) (xs ys : List ℤ) → FillsRows col old xs mid → FillsRows col mid ys new
    → FillsRows col old (xs ++ ys) new
fills_more col old mid new xs ys p q =
    record {
      passed = p.passed ++ q.passed;
      rows = p.rows ∙ ap (λ rs. p.passed ++ rs) q.rows ∙ sym (append_assoc p.passed q.passed new);
      numbers_are =
          ap (λ ns. ns ++ ys) p.numbers_are
          ∙ ap (λ ns. map (number_at col) p.passed ++ ns) q.numbers_are
          ∙ sym (map-append (number_at col) p.passed q.passed);
    }

-- one list of numbers for another
pub fills_same : (col : ℕ) (old new : List Row) (xs ys : List ℤ) → xs ≡ ys → FillsRows col old xs new → FillsRows col old ys new
fills_same col old new xs ys e p = subst (λ ns. FillsRows col old ns new) e p

pub fills_also : (col : ℕ) (old rows new : List Row) (xs ys : List ℤ) → old ≡ rows → xs ≡ ys → FillsRows col old xs new
    → FillsRows col rows ys new
fills_also col old rows new xs ys e same p =
    record { passed = p.passed; rows = sym e ∙ p.rows; numbers_are = sym same ∙ p.numbers_are }

-- what is so of all rows is so of those that are left
pub all_left : (P : Row → Type 0) (old passed new : List Row) → old ≡ passed ++ new → All P old → All P new
all_left P old passed new e h =
    All-same P new (drop (length passed) old) (sym (ap (drop (length passed)) e ∙ drop_passed passed new))
    (All-drop P (length passed) old h)
  where
    drop_passed : (xs ys : List Row) → drop (length xs) (xs ++ ys) ≡ ys
    drop_passed [] ys = refl
    drop_passed (x ∷ xs) ys = drop_passed xs ys

pub all_filled : (P : Row → Type 0) (col : ℕ) (old new : List Row) (xs : List ℤ) → FillsRows col old xs new → All P old → All P new
all_filled P col old new xs p h = all_left P old p.passed new p.rows h

pub all_skipped : (P : Row → Type 0) (old new : List Row) → PassesRow old new → All P old → All P new
all_skipped P old new p h = all_left P old (p.row ∷ []) new p.rows h

-- rows with values in a column are wide
pub are_wide : (ty : ColumnType) (col : ℕ) (rows : List Row) → HaveValues ty col rows → All (IsWide col) rows
are_wide ty col rows h = All-weaker (StandsAt ty col) (IsWide col) (λ row stands. stands.wide) rows h

-- ---- a room that is filled part by part

pub take_more : (done more : ℕ) (out part : List ℤ) → done ≤ length out → more ≤ length part
    → take (done + more) (take done out ++ (part ++ drop (length out - done) (drop done out))) ≡ take done out ++ take more part
take_more done more out part le few =
    by (take done out) (omega (arith, le, length-take done out))
  where
    rest : List ℤ
    rest = drop (length out - done) (drop done out)

    by : (front : List ℤ) → length front ≡ done → take (done + more) (front ++ (part ++ rest)) ≡ front ++ take more part
    by front is =
        ap (λ n. take (n + more) (front ++ (part ++ rest))) (sym is)
        ∙ after front
        ∙ ap (λ ns. front ++ ns) (take-append-le more part rest few)
      where
        after : (xs : List ℤ) → take (length xs + more) (xs ++ (part ++ rest)) ≡ xs ++ take more (part ++ rest)
        after [] = ap (λ n. take n (part ++ rest)) same
          where
            same : 0 + more ≡ more
            same = omega arith
        after (x ∷ xs) = ap (λ n. take n (x ∷ xs ++ (part ++ rest))) next ∙ ap (λ ns. x ∷ ns) (after xs)
          where
            next : suc (length xs) + more ≡ suc (length xs + more)
            next = omega arith

pub numbers_int : (xs : List ℤ) → map number_of (map Int xs) ≡ xs
numbers_int [] = refl
numbers_int (x ∷ xs) = ap (λ ns. x ∷ ns) (numbers_int xs)

pub numbers_truth : (truths : List Bool) → map number_of (map Truth truths) ≡ map (λ truth. cond truth (pos 1) (pos 0)) truths
numbers_truth [] = refl
numbers_truth (truth ∷ truths) = ap (λ ns. cond truth (pos 1) (pos 0) ∷ ns) (numbers_truth truths)

-- the first part of a column's values are those of as many rows
pub first_filled : (col most n : ℕ) (sid : ℕ) (rows : List Row) (own rest : List Value)
    → column_values col (take most (drop sid rows)) ≡ own ++ rest → n ≡ length own
    → FillsRows col (drop sid rows) (map number_of own) (drop (sid + n) rows)
first_filled col most n sid rows own rest is count =
    let left : List Row = drop sid rows in
    let within : n ≤ most =
    omega (
      arith,
      count,
      ap (λ vs. length vs) is,
      length-append own rest,
      length-map (take most left) (λ (row : Row). get_or row col (Truth false)),
      length-take most left,
    ) in
    record {
      passed = take n left;
      rows = sym (take_drop n left) ∙ ap (λ rs. take n left ++ rs) (drop-drop n sid rows);
      numbers_are =
          ap (map number_of)
          (sym (take-append_seam own rest)
          ∙ ap (λ vs. take (length own) vs) (sym is)
          ∙ ap (λ k. take k (column_values col (take most left))) (sym count))
          ∙ ap (map number_of) (take_values n most left within)
          ∙ numbers_values col (take n left);
    }
  where
    take_drop : (k : ℕ) (xs : List Row) → take k xs ++ drop k xs ≡ xs
    take_drop zero xs = refl
    take_drop (suc k) [] = refl
    take_drop (suc k) (x ∷ xs) = ap (λ ys. x ∷ ys) (take_drop k xs)

    take_values : (k m : ℕ) (xs : List Row) → k ≤ m → take k (column_values col (take m xs)) ≡ column_values col (take k xs)
    take_values zero m xs le = refl
    take_values (suc k) zero xs le = absurd (omega (arith, le))
    take_values (suc k) (suc m) [] le = refl
    take_values (suc k) (suc m) (x ∷ xs) le = ap (λ vs. get_or x col (Truth false) ∷ vs) (take_values k m xs (omega (arith, le)))

pub first_set : (out : List ℤ) (n : ℤ) → 0 < length out → take 1 (slice_set out 0 n) ≡ n ∷ []
first_set [] n some = absurd (omega (arith, some))
first_set (x ∷ out) n some = refl

-- ---- one row under a tree

-- rows with the same cell have the same number
number_same : (col : ℕ) (x y : Row) → slice_get x col ≡ slice_get y col → number_at col x ≡ number_at col y
number_same col x y e =
    ap number_of (value-cell col x ∙ ap value_or_false e ∙ sym (value-cell col y))

number_cell : (col : ℕ) (x : Row) (value : Value) → slice_get x col ≡ Some value → number_at col x ≡ number_of value
number_cell col x value e = ap number_of (value-cell col x ∙ ap value_or_false e)

pub fills_inserted : (col : ℕ) (row : Row) (old new : TreeCursor) (below : List Row) → InsertsNext row old new
    → FillsRows col (rows_left old below) (number_at col row ∷ []) (rows_left new below)
fills_inserted col row old new below h = record { passed = row ∷ []; rows = h.rows below; numbers_are = refl }

module _ (col : ℕ) (cells : Cells) (old new : TreeCursor) (below left : List Row) (h : ModifiesNext cells old new)
    (is : IsCursor (length below) old) (wide : All (IsWide col) below) where
  -- the number that the tree gives
  pub fills_given : (value : Value) → PassesRow below left → last_cell col None cells ≡ Some value
      → FillsRows col (rows_left old below) (number_of value ∷ []) (rows_left new left)
  fills_given value p given =
      let first : col < length p.row = All-head (IsWide col) p.row left (All-same (IsWide col) (p.row ∷ left) below (sym p.rows) wide) in
      record {
        passed = set_cells cells p.row ∷ [];
        rows = ap (rows_left old) p.rows ∙ h.rows p.row left (over_next old p.row below left p.rows is);
        numbers_are =
            ap (λ n. n ∷ [])
            (sym (number_cell col (set_cells cells p.row) value
            (slice_get-set_cells cells p.row col first ∙ ap (λ o. or_else o (slice_get p.row col)) given)));
      }

  -- that of the row below, where the tree gives none
  pub fills_below : (xs : List ℤ) → FillsRows col below xs left → length xs ≡ 1 → last_cell col None cells ≡ None
      → FillsRows col (rows_left old below) xs (rows_left new left) × IsCursor (length left) new
  fills_below xs p one none = by p.passed p.rows p.numbers_are
    where
      by : (passed : List Row) → below ≡ passed ++ left → xs ≡ map (number_at col) passed
          → FillsRows col (rows_left old below) xs (rows_left new left) × IsCursor (length left) new
      by [] rows are = absurd (omega (arith, one, ap (λ ns. length ns) are))
      by (row ∷ other ∷ more) rows are = absurd (omega (arith, one, ap (λ ns. length ns) are))
      by (row ∷ []) rows are =
          let first : col < length row = All-head (IsWide col) row left (All-same (IsWide col) (row ∷ left) below (sym rows) wide) in
          let over = over_next old row below left rows is in (
            record {
              passed = set_cells cells row ∷ [];
              rows = ap (rows_left old) rows ∙ h.rows row left over;
              numbers_are =
                  are
                  ∙ ap (λ n. n ∷ [])
                  (sym (number_same col (set_cells cells row) row
                  (slice_get-set_cells cells row col first ∙ ap (λ o. or_else o (slice_get row col)) none)));
            },
            h.cursor (length left) over,
          )

-- a number put at the begin of a room
pub room_one : (out : List ℤ) (n : ℤ) → SFits w64 n → 0 < length out → take 1 (slice_set out 0 (to_z w64 (of_z w64 n))) ≡ n ∷ []
room_one out n fits some = ap (λ m. take 1 (slice_set out 0 m)) (to_z-of_z w64 n fits) ∙ first_set out n some

pub room_first : (part out : List ℤ) → length part ≡ 1 → take 1 (part ++ out) ≡ part
room_first [] out e = absurd (omega (arith, e))
room_first (x ∷ []) out e = refl
room_first (x ∷ y ∷ part) out e = absurd (omega (arith, e))

-- ---- a part of the image

-- rows past the last are none
pub drop_cut : {X : Type 0} (from start : ℕ) (rows : List X) → start ≡ min from (length rows) → drop start rows ≡ drop from rows
drop_cut from start rows is = grind (arith, common_steps)

-- a room that is filled with the numbers of rows has those of as many
pub filled_part : (col count : ℕ) (old new : List Row) (numbers rest : List ℤ) → FillsRows col old numbers new → length numbers ≡ count
    → take count (numbers ++ rest) ≡ map (number_at col) (take count old)
filled_part col count old new numbers rest p many = grind (arith, common_steps)

-- the numbers of the first rows, and those that are left
pub filled_taken : (col left : ℕ) (old new : List Row) (xs : List ℤ) → FillsRows col old xs new → length xs ≤ left
    → take left (map (number_at col) old) ≡ xs ++ take (left - length xs) (map (number_at col) new)
filled_taken col left old new xs p few = grind (arith, common_steps, map-append, take_append)
