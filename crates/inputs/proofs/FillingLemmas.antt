-- Columns that a record's cells are added to, and the rows that they show.
use Rattle.std.proofs.Common.{◌≡◌, ◌∙◌, ◌+◌, ◌<◌, ◌≤◌, ℕ, zero, suc, false, List, [], ◌∷◌, ◌++◌, length, drop, map, get_or, set, Ok, Err, refl, sym, ap, arith}
use Rattle.std.specs.List.{All, range_with_len}
use Rattle.std.proofs.lemmas.List.{append-nil, drop_all, length_push, get_or_push, get_or_append_left}
use Rattle.std.proofs.lemmas.List.Elements.{All-nil, All-cons, All-head, All-tail}
use Rattle.std.proofs.lemmas.List.FromFn.{length-map-range_with_len, get_or-map-range_with_len, map-range_with_len_more, fill_by_all}
use Rattle.std.proofs.lemmas.Simd.{map-map}
use Rattle.values.specs.declared.row.Row.{Row}
use Rattle.values.specs.declared.value.ColumnType.{ColumnType}
use Rattle.values.specs.declared.value.Value.{Value}
use Rattle.values.specs.declared.value.Value.TheVariants.{Bool as Truth}
use Rattle.blocks.specs.Column.{Column}
use Rattle.stable.specs.Rows.{row_at, rows_of}
use Rattle.values.specs.declared.limits.TheConstants.{MAX_ROWS}
use Rattle.inputs.specs.Cells.{prepend}
use Rattle.inputs.specs.Input.{cells_of, row_of}
use Rattle.inputs.specs.Reading.{Fields}
use Rattle.inputs.specs.declared.fault.TableFault.TheVariants.{TooManyRows}
use Rattle.inputs.proofs.CellLemmas.{lt_true}
use Rattle.inputs.specs.Filling.{types_in, empty_column, extended, row_in, rows_in}
use Rattle.inputs.specs.Input.{Numbered}

-- each column has so many values
abbrev pub AreLong : ℕ → List Column → Type 0
AreLong count columns = All (λ c. length c.values ≡ count) columns

-- ---- columns

pub extended-none : (columns : List Column) → extended columns [] ≡ columns
extended-none [] = refl
extended-none (c ∷ columns) = refl

-- the columns from the first value's end on are as they were
pub extended-at : (columns : List Column) (cells : List Value) (i : ℕ) (d : Column) → length cells ≡ i
    → get_or (extended columns cells) i d ≡ get_or columns i d
extended-at [] cells i d e = refl
extended-at (c ∷ columns) [] i d e = refl
extended-at (c ∷ columns) (v ∷ cells) zero d e = absurd (omega (arith, e))
extended-at (c ∷ columns) (v ∷ cells) (suc i) d e = extended-at columns cells i d (omega (arith, e))

pub extended-set : (columns : List Column) (cells : List Value) (i : ℕ) (c : Column) (v : Value) → length cells ≡ i
    → i < length columns → c ≡ get_or columns i c
    → set (extended columns cells) i (record { ty = c.ty; values = c.values ++ v ∷ [] }) ≡ extended columns (cells ++ v ∷ [])
extended-set [] cells i c v e lt is = absurd (omega (arith, lt))
extended-set (x ∷ columns) [] zero c v e lt is =
    let same : c ≡ x = is in
    ap (λ (y : Column). record { ty = y.ty; values = y.values ++ v ∷ [] } ∷ columns) same
    ∙ ap (λ (ys : List Column). record { ty = x.ty; values = x.values ++ v ∷ [] } ∷ ys) (sym (extended-none columns))
extended-set (x ∷ columns) [] (suc i) c v e lt is = absurd (omega (arith, e))
extended-set (x ∷ columns) (w ∷ cells) zero c v e lt is = absurd (omega (arith, e))
extended-set (x ∷ columns) (w ∷ cells) (suc i) c v e lt is =
    ap (λ (ys : List Column). record { ty = x.ty; values = x.values ++ w ∷ [] } ∷ ys)
    (extended-set columns cells i c v (omega (arith, e)) (omega (arith, lt)) is)

pub length-extended : (columns : List Column) (cells : List Value) → length (extended columns cells) ≡ length columns
length-extended [] cells = refl
length-extended (c ∷ columns) [] = refl
length-extended (c ∷ columns) (v ∷ cells) = ap suc (length-extended columns cells)

pub types_in-extended : (columns : List Column) (cells : List Value) → types_in (extended columns cells) ≡ types_in columns
types_in-extended [] cells = refl
types_in-extended (c ∷ columns) [] = refl
types_in-extended (c ∷ columns) (v ∷ cells) = ap (λ (types : List ColumnType). c.ty ∷ types) (types_in-extended columns cells)

pub types_in-empty : (types : List ColumnType) → types_in (map empty_column types) ≡ types
types_in-empty [] = refl
types_in-empty (type ∷ types) = ap (λ (rest : List ColumnType). type ∷ rest) (types_in-empty types)

pub AreLong-empty : (types : List ColumnType) → AreLong 0 (map empty_column types)
AreLong-empty [] = All-nil (λ (c : Column). length c.values ≡ 0)
AreLong-empty (type ∷ types) =
    All-cons (λ (c : Column). length c.values ≡ 0) (empty_column type) (map empty_column types) refl (AreLong-empty types)

pub AreLong-extended : (count : ℕ) (columns : List Column) (cells : List Value) → AreLong count columns
    → length cells ≡ length columns → AreLong (count + 1) (extended columns cells)
AreLong-extended count [] cells h e = All-nil (λ (c : Column). length c.values ≡ count + 1)
AreLong-extended count (c ∷ columns) [] h e = absurd (omega (arith, e))
AreLong-extended count (c ∷ columns) (v ∷ cells) h e =
    let Long : Column → Type 0 = λ c. length c.values ≡ count in
    let here : length c.values ≡ count = All-head Long c columns h in
    All-cons (λ (c : Column). length c.values ≡ count + 1) (record { ty = c.ty; values = c.values ++ v ∷ [] }) (extended columns cells)
    (length_push c.values v ∙ ap (λ n. n + 1) here)
    (AreLong-extended count columns cells (All-tail Long c columns h) (omega (arith, e)))

-- ---- rows

row_at-before : (count i : ℕ) (columns : List Column) (cells : List Value) → AreLong count columns → i < count
    → row_at (extended columns cells) i ≡ row_at columns i
row_at-before count i [] cells h lt = refl
row_at-before count i (c ∷ columns) [] h lt = refl
row_at-before count i (c ∷ columns) (v ∷ cells) h lt =
    let Long : Column → Type 0 = λ c. length c.values ≡ count in
    let here : length c.values ≡ count = All-head Long c columns h in
    let one : get_or (c.values ++ v ∷ []) i (Truth false) ≡ get_or c.values i (Truth false) =
    get_or_append_left c.values (v ∷ []) (Truth false) i (omega (arith, here, lt)) in
    let rest = row_at-before count i columns cells (All-tail Long c columns h) lt in
    (λ j. one j ∷ rest j)

row_at-added : (count : ℕ) (columns : List Column) (cells : List Value) → AreLong count columns → length cells ≡ length columns
    → row_at (extended columns cells) count ≡ cells
row_at-added count [] [] h e = refl
row_at-added count [] (v ∷ cells) h e = absurd (omega (arith, e))
row_at-added count (c ∷ columns) [] h e = absurd (omega (arith, e))
row_at-added count (c ∷ columns) (v ∷ cells) h e =
    let Long : Column → Type 0 = λ c. length c.values ≡ count in
    let here : length c.values ≡ count = All-head Long c columns h in
    let one : get_or (c.values ++ v ∷ []) count (Truth false) ≡ v = get_or_push c.values v (Truth false) count here in
    let rest = row_at-added count columns cells (All-tail Long c columns h) (omega (arith, e)) in
    (λ j. one j ∷ rest j)

pub length-rows_in : (count : ℕ) (columns : List Column) → length (rows_in count columns) ≡ count
length-rows_in count columns = length-map-range_with_len (row_in columns) 0 count

pub rows_in-at : (count : ℕ) (columns : List Column) (i : ℕ) (d : Numbered) → i < count
    → get_or (rows_in count columns) i d ≡ row_in columns i
rows_in-at count columns i d lt = get_or-map-range_with_len (row_in columns) 0 count i i d lt (omega arith)

-- one row more
pub rows_in-extended : (count : ℕ) (columns : List Column) (cells : List Value) → AreLong count columns → length cells ≡ length columns
    → rows_in (count + 1) (extended columns cells) ≡ rows_in count columns ++ record { number = count + 2; row = cells } ∷ []
rows_in-extended count columns cells h e =
    let more = extended columns cells in
    let first : rows_in count columns ≡ rows_in count more =
    fill_by_all (row_in more) (rows_in count columns) count (row_in columns 0) (length-rows_in count columns)
    (λ k lt. rows_in-at count columns k (row_in columns 0) lt
    ∙ ap (λ (row : Row). record { number = k + 2; row = row }) (sym (row_at-before count k columns cells h lt)))
    in
    let last : row_in more count ≡ record { number = count + 2; row = cells } =
    ap (λ (row : Row). record { number = count + 2; row = row }) (row_at-added count columns cells h e) in
    map-range_with_len_more (row_in more) 0 count count (omega arith)
    ∙ (λ j. (sym first) j ++ last j ∷ [])

-- the rows without their numbers
pub rows_in-alone : (count : ℕ) (columns : List Column) → map (λ row. row.row) (rows_in count columns) ≡ rows_of count columns
rows_in-alone count columns = map-map (λ (row : Numbered). row.row) (row_in columns) (range_with_len 0 count)

-- ---- cell by cell

-- the type of the column at a place, and those after it
pub type-drop : (columns : List Column) (i : ℕ) (c : Column) → i < length columns → c ≡ get_or columns i c
    → drop i (types_in columns) ≡ c.ty ∷ drop (suc i) (types_in columns)
type-drop [] i c lt is = absurd (omega (arith, lt))
type-drop (x ∷ columns) zero c lt is = ap (λ (y : Column). y.ty ∷ types_in columns) (sym is)
type-drop (x ∷ columns) (suc i) c lt is = type-drop columns i c (omega (arith, lt)) is

-- where nothing is left the cells are all
pub all-cells : (number i : ℕ) (types : List ColumnType) (fields : Fields) (cells : List Value) → length types ≤ i
    → prepend cells (cells_of number i (drop i types) (drop i fields)) ≡ Ok cells
all-cells number i types fields cells le =
    ap (λ (left : List ColumnType). prepend cells (cells_of number i left (drop i fields))) (drop_all i types le) ∙ ap Ok (append-nil cells)

-- ---- the row of a record

pub row_of-many : (types : List ColumnType) (number : ℕ) (fields : Fields) → MAX_ROWS + 1 < number
    → row_of types number fields ≡ Err TooManyRows
row_of-many types number fields many = rw (lt_true (MAX_ROWS + 1) number many) refl
