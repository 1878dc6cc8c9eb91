-- Numbers of a column, run by run.
use Rattle.std.proofs.Common.{◌≡◌, ◌∙◌, ℕ, ◌+◌, ◌<◌, ◌≤◌, false, List, [], ◌∷◌, ◌++◌, append_assoc, length, take, drop, map, get_or, refl, sym, ap, subst, arith, inl, inr}
use Rattle.std.specs.Prelude.{ℤ, IsTrue, Option, Some, None, min, slice_get, suc, true}
use Rattle.std.proofs.lemmas.Option.{get_or_from_slice_get, slice_get_within}
use Rattle.std.specs.List.{All}
use Rattle.std.proofs.lemmas.Bool.{cases_lt}
use Rattle.std.proofs.lemmas.List.{append-nil, drop-take, length-append, length-drop, length-map, length-take, take-map, take_all}
use Rattle.values.specs.declared.row.Row.{Row}
use Rattle.values.specs.declared.value.Value.{Value}
use Rattle.values.specs.declared.value.Value.TheVariants.{Int, Text, Bool as Truth}
use Rattle.values.specs.declared.value.ColumnType.{ColumnType}
use Rattle.values.specs.declared.value.ColumnType.TheVariants as column
use Rattle.values.specs.Shape.{has_type}
use Rattle.merge.specs.Packed.{AreNumbersOf, number_of as packed_number}
use Rattle.stable.specs.Rows.{column_values}
use Rattle.pdt_c.specs.Cells.{number_of, numbers_of}
use Rattle.pdt_c.specs.Numbers.{IsShown, AreShown, HandsPieces, is_int}
use Rattle.pdt_c.specs.declared.calls.pieces.Piece.{Piece}

pub numbers_int : (xs : List ℤ) → numbers_of (map Int xs) ≡ xs
numbers_int [] = refl
numbers_int (x ∷ xs) = ap (λ rest. x ∷ rest) (numbers_int xs)

-- an int's number is what C is handed of it
int_number : (v : Value) → IsTrue (has_type column.Int v) → packed_number v ≡ number_of v
int_number (Int n) h = refl
int_number (Text t) h = cc h
int_number (Truth b) h = cc h

pub int_numbers : (values : List Value) (numbers : List ℤ) → AreNumbersOf column.Int values numbers → numbers ≡ numbers_of values
int_numbers values numbers are = are.numbers_are ∙ each values are.typed
  where
    each : (vs : List Value) → All (λ v. IsTrue (has_type column.Int v)) vs → map packed_number vs ≡ numbers_of vs
    each [] typed = refl
    each (v ∷ vs) typed =
        let own = int_number v (typed 0 v (omega arith)) in
        let rest = each vs (λ k d lt. typed (suc k) d (omega (arith, lt))) in
        λ i. own i ∷ rest i

-- a column of ints is there
pub ints_there : (types : List ColumnType) (col : ℕ) → is_int (slice_get types col) ≡ true
    → (col < length types) × (get_or types col column.Int ≡ column.Int)
ints_there types col is = by (slice_get types col) refl is
  where
    by : (found : Option ColumnType) → slice_get types col ≡ found → is_int found ≡ true
        → (col < length types) × (get_or types col column.Int ≡ column.Int)
    by (Some column.Int) e h = (slice_get_within types col column.Int e, get_or_from_slice_get types col column.Int column.Int e)
    by (Some column.Text) e h = cc h
    by (Some column.Bool) e h = cc h
    by None e h = cc h

-- ---- a range of rows

-- from a place on, as many as a room has
pub range_cut : {X : Type 0} (from room to : ℕ) (rows : List X) → (from + room ≤ length rows → to ≡ from + room)
    → (length rows ≤ from + room → to ≡ length rows)
    → drop from (take to rows) ≡ take room (drop from rows)
range_cut from room to rows small large =
    elim (cases_lt (length rows) (from + room)) [
      | inl l ↦ ap (λ n. drop from (take n rows)) (large (omega (arith, l)))
          ∙ ap (drop from) (take_all (length rows) rows (omega arith))
          ∙ sym (take_all room (drop from rows) (omega (arith, l, length-drop from rows)))
      | inr g ↦ ap (λ n. drop from (take n rows)) (small (omega (arith, g))) ∙ drop-take from room rows
    ]

-- up to a place, or to the end
pub take_cut : {X : Type 0} (to end : ℕ) (rows : List X) → (to ≤ length rows → end ≡ to) → (length rows ≤ to → end ≡ length rows)
    → take end rows ≡ take to rows
take_cut to end rows small large =
    elim (cases_lt (length rows) to) [
      | inl l ↦ ap (λ n. take n rows) (large (omega (arith, l)))
          ∙ take_all (length rows) rows (omega arith)
          ∙ sym (take_all to rows (omega (arith, l)))
      | inr g ↦ ap (λ n. take n rows) (small (omega (arith, g)))
    ]

pub numbers_cut : (col from room to : ℕ) (rows : List Row) → drop from (take to rows) ≡ take room (drop from rows)
    → numbers_of (column_values col (drop from (take to rows))) ≡ take room (numbers_of (column_values col (drop from rows)))
numbers_cut col from room to rows cut =
    ap (λ rs. numbers_of (column_values col rs)) cut
    ∙ ap numbers_of (sym (take-map (λ (row : Row). get_or row col (Truth false)) room (drop from rows)))
    ∙ sym (take-map number_of room (column_values col (drop from rows)))

-- as many as there are and fit
pub take_least : {X : Type 0} (room count : ℕ) (xs : List X) → count ≡ min room (length xs) → take count xs ≡ take room xs
take_least room count xs is =
    elim (cases_lt (length xs) room) [
      | inl l ↦ take_all count xs (omega (arith, l, is)) ∙ sym (take_all room xs (omega (arith, l)))
      | inr g ↦ ap (λ n. take n xs) (omega (arith, g, is))
    ]

-- a room that is filled with the first values of rows in a column has the first of its numbers
pub numbers_filled : (col room count : ℕ) (out : List ℤ) (rows : List Row) → count ≡ min room (length rows)
    → AreNumbersOf column.Int (column_values col (take count rows)) (take count out)
    → take count out ≡ take room (numbers_of (column_values col rows))
numbers_filled col room count out rows count_is told =
    let all = numbers_of (column_values col rows) in
    let many = length-map (column_values col rows) number_of in
    let wide = length-map rows (λ (row : Row). get_or row col (Truth false)) in
    int_numbers (column_values col (take count rows)) (take count out) told
    ∙ ap numbers_of (sym (take-map (λ (row : Row). get_or row col (Truth false)) count rows))
    ∙ sym (take-map number_of count (column_values col rows))
    ∙ take_least room count all (omega (arith, count_is, many, wide))

pub length-between : (col from to : ℕ) (rows : List Row) → length (numbers_of (column_values col (drop from (take to rows)))) ≤ length rows
length-between col from to rows =
    omega (
      arith,
      length-map (column_values col (drop from (take to rows))) number_of,
      length-map (drop from (take to rows)) (λ (row : Row). get_or row col (Truth false)),
      length-drop from (take to rows),
      length-take to rows,
    )

-- ---- pieces

pub shown_more : (pieces : List Piece) (piece : Piece) (numbers own : List ℤ) → AreShown pieces numbers → IsShown piece own
    → AreShown (pieces ++ piece ∷ []) (numbers ++ own)
shown_more [] piece numbers own h shows = (own, [], ap (λ (ns : List ℤ). ns ++ own) h ∙ sym (append-nil own), shows, refl)
shown_more (p ∷ pieces) piece numbers own h shows =
    (h.0, h.1 ++ own, ap (λ (ns : List ℤ). ns ++ own) h.2 ∙ append_assoc h.0 h.1 own, h.3, shown_more pieces piece h.1 own h.4 shows)

take_seen : (seen rest : List ℤ) (n : ℕ) → n ≡ length seen → take n (seen ++ rest) ≡ seen
take_seen seen rest n is = ap (λ m. take m (seen ++ rest)) is ∙ first seen
  where
    first : (xs : List ℤ) → take (length xs) (xs ++ rest) ≡ xs
    first [] = refl
    first (x ∷ xs) = ap (λ ys. x ∷ ys) (first xs)

-- what pieces show that come so far, and no others where there is room
pub handed : (numbers seen rest : List ℤ) (room count rows : ℕ) (pieces : List Piece) → count ≤ room → rows ≡ length seen
    → AreShown (take count pieces) seen
    → seen ++ rest ≡ numbers → (count < room → rest ≡ []) → HandsPieces numbers room count pieces rows
handed numbers seen rest room count rows pieces within rows_are shown is all =
    record {
      within = within;
      rows_within = omega (arith, rows_are, ap (λ (ns : List ℤ). length ns) is, length-append seen rest);
      shown = subst (AreShown (take count pieces)) (sym (ap (take rows) (sym is) ∙ take_seen seen rest rows rows_are)) shown;
      all =
          λ lt. omega (
            arith,
            rows_are,
            ap (λ (ns : List ℤ). length ns) is,
            length-append seen rest,
            ap (λ (ns : List ℤ). length ns) (all lt),
          );
    }
