-- The rows of a table's records fit its schema, and in ascending key they are a table.
use Rattle.std.proofs.Common.{◌≡◌, ◌+◌, ℕ, suc, T, Bool, true, false, List, [], ◌∷◌, length, map, Option, Some, None, Result, Ok, Err, is_lt, refl, sym, ap, subst, arith, inl, inr, nat_lt, eq-eqb}
use Rattle.std.specs.List.{All, list_all}
use Rattle.std.specs.List.Sorted.{IsPermutation}
use Rattle.std.specs.Option.{option_map}
use Rattle.std.specs.Str.{is_utf8}
use Rattle.std.specs.FinMap.Entries.{below_all}
use Rattle.std.proofs.lemmas.Bool.{cases_Bool, cases_eq, ne_eqb}
use Rattle.std.proofs.lemmas.List.Elements.{All-cons, All-tail}
use Rattle.std.proofs.lemmas.List.Sorted.{All-permutation}
use Rattle.values.specs.Orders.{key_cmp, key_cmp_total}
use Rattle.values.specs.Shape.{Columns, key_of, value_fault, values_fault, list_fault, fits_schema}
use Rattle.values.specs.declared.limits.TheConstants.{MAX_ROWS, MAX_TEXT_BYTES}
use Rattle.values.specs.declared.row.Row.{Row}
use Rattle.values.specs.declared.value.ColumnType.{ColumnType}
use Rattle.values.specs.declared.value.ColumnType.TheVariants as column
use Rattle.values.specs.declared.value.Value.{Value}
use Rattle.values.specs.declared.value.Value.TheVariants.{Int, Text, Bool as Truth}
use Rattle.model.specs.Maps.{is_sorted}
use Rattle.model.specs.Table as model
use Rattle.model.proofs.CallerLemmas.{both, first, below_less, is_keyed_table-table_of}
use Rattle.inputs.specs.Cells.{int_of, truth_of}
use Rattle.inputs.specs.Header.{schema_of}
use Rattle.inputs.specs.Input.{cell_of, cells_of, numbered, row_of, numbered_rows, first_repeat, unless_repeated, keyed, under, table_of, IsAscending}
use Rattle.inputs.specs.Reading.{Fields}
use Rattle.inputs.specs.declared.fault.TableFault.{TableFault}
use Rattle.inputs.specs.Input.{Numbered}
use Rattle.inputs.proofs.ReadLemmas.{then_cons-parts, or_else-parts}

-- ---- cells

mapped : {A : Type 0} (type : ColumnType) (col : ℕ) (f : A → Value) (o : Option A) (v : Value)
    → ((a : A) → value_fault type col (f a) ≡ None) → option_map f o ≡ Some v → value_fault type col v ≡ None
mapped type col f None v h e = cc e
mapped type col f (Some a) v h e = let same : f a ≡ v = cc e in rw (← same) (h a)

-- a cell that was read fits its column
cell_of-fits : (type : ColumnType) (number at col : ℕ) (bytes : List ℕ) (v : Value) → cell_of type number at bytes ≡ Ok v
    → value_fault type col v ≡ None
cell_of-fits column.Int number at col bytes v e = mapped column.Int col Int (int_of bytes) v (λ a. refl) (or_else-parts _ _ v e)
cell_of-fits column.Bool number at col bytes v e = mapped column.Bool col Truth (truth_of bytes) v (λ a. refl) (or_else-parts _ _ v e)
cell_of-fits column.Text number at col bytes v e = elim (cases_Bool (is_utf8 bytes)) [
  | inr f ↦ cc (rw f at e)
  | inl t ↦ elim (cases_Bool (nat_lt MAX_TEXT_BYTES (length bytes))) [
    | inl long ↦ cc (rw (t, long) at e)
    | inr short ↦ let same : Text bytes ≡ v = cc (rw (t, short) at e) in rw (← same) (rw short refl)
  ]
]

cells_of-fit : (number at col : ℕ) (types : List ColumnType) (fields : Fields) (cells : List Value) → length fields ≡ length types
    → cells_of number at types fields ≡ Ok cells
    → (length cells ≡ length types) × (values_fault col types cells ≡ None)
cells_of-fit number at col [] fields cells l e = let none : cells ≡ [] = cc e in rw none (refl, refl)
cells_of-fit number at col (type ∷ types) [] cells l e = absurd (omega (arith, l))
cells_of-fit number at col (type ∷ types) (field ∷ fields) cells l e =
    let parts = then_cons-parts _ (cells_of number (suc at) types fields) cells e in
    let one = cell_of-fits type number at col field parts.0 parts.2 in
    let rest = cells_of-fit number (suc at) (suc col) types fields parts.1 (omega (arith, l)) parts.3 in
    rw parts.4 (ap suc rest.0, rw (one, rest.1) refl)

-- ---- rows

numbered-parts : (number : ℕ) (r : Result (List Value) TableFault) (row : Numbered) → numbered number r ≡ Ok row → r ≡ Ok row.row
numbered-parts number (Err f) row e = cc e
numbered-parts number (Ok cells) row e =
    let same : ◌≡◌ {A = Numbered} (record { number = number; row = cells }) row = cc e in
    ap (λ (x : Numbered). Ok x.row) same

row_of-fits : (types : List ColumnType) (number : ℕ) (fields : Fields) (row : Numbered) → row_of types number fields ≡ Ok row
    → list_fault types row.row ≡ None
row_of-fits types number fields row e = elim (cases_Bool (nat_lt (MAX_ROWS + 1) number)) [
  | inl many ↦ cc (rw many at e)
  | inr few ↦ elim (cases_eq (length fields) (length types)) [
    | inr n ↦ cc (rw (few, ne_eqb (length fields) (length types) n) at e)
    | inl s ↦
        let cells = numbered-parts number _ row (rw (few, eq-eqb (length fields) (length types) s) at e) in
        let fit = cells_of-fit number 0 0 types fields row.row s cells in
        rw (eq-eqb (length row.row) (length types) fit.0) fit.1
  ]
]

pub numbered_rows-fit : (types : List ColumnType) (number : ℕ) (records : List Fields) (rows : List Numbered)
    → numbered_rows types number records ≡ Ok rows
    → All (λ row. list_fault types row ≡ None) (map (λ row. row.row) rows)
numbered_rows-fit types number [] rows e = let none : rows ≡ [] = cc e in rw none (λ k d l. absurd (omega (arith, l)))
numbered_rows-fit types number (fields ∷ records) rows e =
    let parts = then_cons-parts (row_of types number fields) (numbered_rows types (suc number) records) rows e in
    rw parts.4 (All-cons (λ (row : Row). list_fault types row ≡ None) parts.0.row (map (λ row. row.row) parts.1)
    (row_of-fits types number fields parts.0 parts.2)
    (numbered_rows-fit types (suc number) records parts.1 parts.3))

-- ---- tables

unless_repeated-fits : (schema columns : Columns) (rows : List Numbered) (o : Option Numbered) (read : List Row)
    → All (λ row. list_fault columns.types row ≡ None) (map (λ row. row.row) rows)
    → unless_repeated columns rows o ≡ Ok (schema, read) → All (λ row. list_fault schema.types row ≡ None) read
unless_repeated-fits schema columns rows (Some row) read h e = cc e
unless_repeated-fits schema columns rows None read h e =
    let same : ◌≡◌ {A = Columns × List Row} (columns, map (λ row. row.row) rows) (schema, read) = cc e in
    subst (λ (p : Columns × List Row). All (λ row. list_fault p.0.types row ≡ None) p.1) same h

keyed-fits : (schema columns : Columns) (r : Result (List Numbered) TableFault) (read : List Row)
    → ((rows : List Numbered) → r ≡ Ok rows → All (λ row. list_fault columns.types row ≡ None) (map (λ row. row.row) rows))
    → keyed columns r ≡ Ok (schema, read) → All (λ row. list_fault schema.types row ≡ None) read
keyed-fits schema columns (Err f) read h e = cc e
keyed-fits schema columns (Ok rows) read h e =
    unless_repeated-fits schema columns rows (first_repeat columns.key_cols rows) read (h rows refl) e

under-fits : (schema : Columns) (s : Result Columns TableFault) (records : List Fields) (read : List Row)
    → under s records ≡ Ok (schema, read) → All (λ row. list_fault schema.types row ≡ None) read
under-fits schema (Err f) records read e = cc e
under-fits schema (Ok columns) records read e =
    keyed-fits schema columns (numbered_rows columns.types 2 records) read (numbered_rows-fit columns.types 2 records) e

-- each row that was read fits the schema
table_of-fits : (records : List Fields) (schema : Columns) (read : List Row) → table_of records ≡ Ok (schema, read)
    → All (λ row. list_fault schema.types row ≡ None) read
table_of-fits [] schema read e = cc e
table_of-fits (header ∷ records) schema read e = under-fits schema (schema_of header) records read e

ascending-tail : (k : ℕ) (row : Row) (rows : List Row) → IsAscending k (row ∷ rows) → IsAscending k rows
ascending-tail k row rows h i d l =
    let next : suc i + 1 ≡ suc (i + 1) = omega arith in
    rw next at (h (suc i) d (omega (arith, l)))

sorted-rows : (k : ℕ) (rows : List Row) → IsAscending k rows → T (is_sorted key_cmp (model.table_of k rows))
sorted-rows k [] h = tt
sorted-rows k (row ∷ []) h = tt
sorted-rows k (row ∷ next ∷ rows) h =
    let less = h 0 row (omega arith) in
    let rest = sorted-rows k (next ∷ rows) (ascending-tail k row (next ∷ rows) h) in
    let later = model.table_of k rows in
    let behind =
    below_less key_cmp_total (key_of k row) (key_of k next) later less
    (first (below_all key_cmp (key_of k next) later) (is_sorted key_cmp later) rest) in
    let below =
    both (is_lt (key_cmp (key_of k row) (key_of k next))) (below_all key_cmp (key_of k row) later)
    (subst (λ o. T (is_lt o)) (sym less) tt) behind in
    both (below_all key_cmp (key_of k row) (model.table_of k (next ∷ rows))) (is_sorted key_cmp (model.table_of k (next ∷ rows))) below rest

true-from : (b : Bool) → T b → b ≡ true
true-from true h = refl
true-from false h = absurd h

all_fit : (schema : Columns) (rows : List Row) → All (λ row. list_fault schema.types row ≡ None) rows
    → list_all (λ e. fits_schema schema e.1) (model.table_of schema.key_cols rows) ≡ true
all_fit schema [] h = refl
all_fit schema (row ∷ rows) h =
    rw (h 0 row (omega arith), all_fit schema rows (All-tail (λ (r : Row). list_fault schema.types r ≡ None) row rows h)) refl

-- rows that fit, each once and in ascending key, are a table of the schema
pub rows-table : (schema : Columns) (read rows : List Row) → All (λ row. list_fault schema.types row ≡ None) read
    → IsPermutation read rows → IsAscending schema.key_cols rows
    → model.IsTable schema (model.table_of schema.key_cols rows)
rows-table schema read rows fit each_once ascending = record {
  keyed = true-from _ (is_keyed_table-table_of schema.key_cols rows (sorted-rows schema.key_cols rows ascending));
  fitting = all_fit schema rows (All-permutation (λ (r : Row). list_fault schema.types r ≡ None) read rows each_once fit);
}

-- the same of rows that were read
pub table_of-table : (records : List Fields) (schema : Columns) (read rows : List Row) → table_of records ≡ Ok (schema, read)
    → IsPermutation read rows → IsAscending schema.key_cols rows
    → model.IsTable schema (model.table_of schema.key_cols rows)
table_of-table records schema read rows said each_once ascending =
    rows-table schema read rows (table_of-fits records schema read said) each_once ascending
