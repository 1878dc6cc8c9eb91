-- What the modifies at a SID make of a row, and how a walk over them finds a value.
use Rattle.std.proofs.Common.{◌≡◌, ℕ, zero, suc, ◌<◌, ◌≤◌, Bool, true, false, cond, not, T, Option, Some, None, List, [], ◌∷◌, rules}
use Rattle.std.proofs.Common.{◌++◌, length, take, drop, get_or, Ordering, Less, Equal, Greater, is_gt, nat_cmp, refl}
use Rattle.std.proofs.Common.{sym, ap, ◌∙◌, subst, arith, take-append-drop, length-set}
use Rattle.std.specs.Prelude.{◌==◌, slice_get, slice_set, replicate}
use Rattle.std.proofs.lemmas.Option.{slice_get_within, slice_get-get_or, slice_get-map}
use Rattle.std.proofs.lemmas.List.{append-nil, drop_all, length-map, length-replicate, get_or-replicate, map-set, take_all}
use Rattle.std.specs.Bool.{passes}
use Rattle.std.specs.Ordering.{ordering_then}
use Rattle.std.specs.Cmp.{ranked}
use Rattle.std.specs.List.{list_all, refill}
use Rattle.std.specs.Option.{option_map, option_or}
use Rattle.std.proofs.lemmas.Bool.Decides.{nat_tests}
use Rattle.values.specs.Lent.{value_of}
use Rattle.values.specs.declared.value.ValueRef.{ValueRef}
use Rattle.values.specs.Shape.{Columns, fits_schema}
use Rattle.values.specs.declared.row.Row.{Row}
use Rattle.values.specs.declared.value.Value.{Value}
use Rattle.model.specs.declared.entry.Entry.{Entry}
use Rattle.model.specs.Effects.{Cells, set_cells}
use Rattle.model.specs.Entries.{are_ordered}
use Rattle.model.specs.Table.{table_of}
use Rattle.model.proofs.CallerLemmas.{first, second, changes_at_after}
use Rattle.delta.specs.Search.{base_cmp, stands_before, IsSplit}
use Rattle.stable.specs.Stable.{Stable, table_in, IsStable}
use Rattle.merge.specs.View.{modified_cells, modified_values, cells_at, layer_cells, last_cell, source_row, row_of}
use Rattle.merge.specs.View.{values_of, with_cells}
use Rattle.merge.specs.declared.view.RowView.{RowView}
use Rattle.merge.proofs.LevelLemmas.{all_from-ordered, all_after-from}
use Rattle.delta.proofs.CallerLemmas.{length-fits}
use Rattle.std.proofs.lemmas.Grind.{common_steps}

-- ---- cells

some_same : {X : Type 0} {x y : X} → Some x ≡ Some y → x ≡ y
some_same e = cc

pub length-set_cells : (cells : Cells) (row : Row) → length (set_cells cells row) ≡ length row
length-set_cells [] row = refl
length-set_cells (c ∷ cells) row = length-set_cells cells (slice_set row c.0 c.1) ∙ length-set row c.0 c.1

-- the first value, or else the other
abbrev pub or_else : Option Value → Option Value → Option Value
or_else None other = other
or_else (Some value) other = Some value

or_else-cond : (b : Bool) (value : Value) (other : Option Value) → or_else (cond b (Some value) None) other ≡ cond b (Some value) other
or_else-cond true value other = refl
or_else-cond false value other = refl

pub or_else-twice : (a b c : Option Value) → or_else (or_else a b) c ≡ or_else a (or_else b c)
or_else-twice None b c = refl
or_else-twice (Some value) b c = refl

pub last_cell-so_far : (col : ℕ) (so_far : Option Value) (cells : Cells)
    → last_cell col so_far cells ≡ or_else (last_cell col None cells) so_far
last_cell-so_far col so_far [] = refl
last_cell-so_far col so_far (c ∷ cells) = grind (arith, common_steps, last_cell-so_far col (cond (c.0 == col) (Some c.1) so_far) cells, last_cell-so_far col (cond (c.0 == col) (Some c.1) None) cells, or_else-cond, or_else-twice)

pub same_next : (i j : ℕ) → (i == j) ≡ (suc i == suc j)
same_next i j = grind (arith, nat_tests)

pub first_other : (j : ℕ) → (0 == suc j) ≡ false
first_other j = grind (arith, nat_tests)

pub other_first : (i : ℕ) → (suc i == 0) ≡ false
other_first i = grind (arith, nat_tests)

slice_get-slice_set : {X : Type 0} (xs : List X) (i j : ℕ) (x : X) → j < length xs
    → slice_get (slice_set xs i x) j ≡ cond (i == j) (Some x) (slice_get xs j)
slice_get-slice_set [] i j x lt = absurd (omega arith)
slice_get-slice_set (y ∷ xs) zero zero x lt = refl
slice_get-slice_set (y ∷ xs) zero (suc j) x lt = ap (λ b. cond b (Some x) (slice_get xs j)) (sym (first_other j))
slice_get-slice_set (y ∷ xs) (suc i) zero x lt = ap (λ b. cond b (Some x) (Some y)) (sym (other_first i))
slice_get-slice_set (y ∷ xs) (suc i) (suc j) x lt =
    let shorter : j < length xs = omega arith in
    slice_get-slice_set xs i j x shorter ∙ ap (λ b. cond b (Some x) (slice_get xs j)) (same_next i j)

-- the value of a column in a row with other cells
pub slice_get-set_cells : (cells : Cells) (row : Row) (col : ℕ) → col < length row
    → slice_get (set_cells cells row) col ≡ or_else (last_cell col None cells) (slice_get row col)
slice_get-set_cells [] row col lt = refl
slice_get-set_cells (c ∷ cells) row col lt =
    let wide : col < length (slice_set row c.0 c.1) = omega (arith, length-set row c.0 c.1) in
    slice_get-set_cells cells (slice_set row c.0 c.1) col wide
    ∙ ap (or_else (last_cell col None cells)) (slice_get-slice_set row c.0 col c.1 lt
    ∙ sym (or_else-cond (c.0 == col) c.1 (slice_get row col)))
    ∙ sym (or_else-twice (last_cell col None cells) (cond (c.0 == col) (Some c.1) None) (slice_get row col))
    ∙ ap (λ o. or_else o (slice_get row col)) (sym (last_cell-so_far col (cond (c.0 == col) (Some c.1) None) cells))

length-with_cells : (cells : Cells) (values : List (Option Value)) → length (with_cells cells values) ≡ length values
length-with_cells [] values = refl
length-with_cells (c ∷ cells) values =
    length-with_cells cells (slice_set values c.0 (Some c.1)) ∙ length-set values c.0 (Some c.1)

pub values_of-replicate : (n : ℕ) → values_of (replicate n None) ≡ replicate n None
values_of-replicate zero = refl
values_of-replicate (suc n) = ap (λ values. None ∷ values) (values_of-replicate n)

-- what is modified of a column with more cells
pub slice_get-with_cells : (cells : Cells) (values : List (Option Value)) (col : ℕ) (so_far : Option Value)
    → slice_get values col ≡ Some so_far → slice_get (with_cells cells values) col ≡ Some (or_else (last_cell col None cells) so_far)
slice_get-with_cells [] values col so_far h = h
slice_get-with_cells (c ∷ cells) values col so_far h =
    slice_get-with_cells cells (slice_set values c.0 (Some c.1)) col (cond (c.0 == col) (Some c.1) so_far)
    (slice_get-slice_set values c.0 col (Some c.1) (slice_get_within values col so_far h) ∙ given (c.0 == col))
    ∙ ap Some (sym (last_cell-so_far col (cond (c.0 == col) (Some c.1) so_far) cells) ∙ last_cell-so_far col so_far (c ∷ cells))
  where
    given : (b : Bool) → cond b (Some (Some c.1)) (slice_get values col) ≡ Some (cond b (Some c.1) so_far)
    given true = refl
    given false = h

-- ---- a view

module _ (v : RowView) where
  pub length-row_of : length (row_of v) ≡ length (source_row v.source)
  length-row_of = omega (arith, length-set_cells)

  -- the value of a column is that of the highest layer that modifies it
  pub slice_get-row_of : (col : ℕ) (trans write read : Option Value) → col < length (row_of v)
      → last_cell col None (layer_cells v.trans) ≡ trans → last_cell col None (layer_cells v.write) ≡ write
      → last_cell col None (layer_cells v.read) ≡ read
      → slice_get (row_of v) col ≡ or_else trans (or_else write (or_else read (slice_get (source_row v.source) col)))
  slice_get-row_of col trans write read lt in_trans in_write in_read = grind (arith, common_steps, length-row_of, length-set_cells, slice_get-set_cells)

  pub length-modified : length (modified_values v) ≡ length (row_of v)
  length-modified = grind (arith, common_steps, length-with_cells, length-replicate)

  -- and so is what is modified of it, by column
  pub slice_get-modified : (col : ℕ) (modified : Option Value) → col < length (row_of v) → slice_get (modified_values v) col ≡ Some modified
      → slice_get (row_of v) col ≡ or_else modified (slice_get (source_row v.source) col)
  slice_get-modified col modified lt h =
      let no : Option Value = None in
      let none = replicate (length (row_of v)) no in
      let in_read = last_cell col None (layer_cells v.read) in
      let in_write = last_cell col None (layer_cells v.write) in
      let in_trans = last_cell col None (layer_cells v.trans) in
      let long = length-replicate (length (row_of v)) no in
      let first : slice_get none col ≡ Some None = slice_get-get_or none col no (omega arith)
      ∙ ap Some (get_or-replicate (length (row_of v)) col no no lt) in
      let one = slice_get-with_cells (layer_cells v.read) none col None first in
      let two = slice_get-with_cells (layer_cells v.write) _ col _ one in
      let three = slice_get-with_cells (layer_cells v.trans) _ col _ two in
      let same : or_else in_trans (or_else in_write (or_else in_read None)) ≡ modified = some_same (sym three ∙ h) in
      let source = slice_get (source_row v.source) col in
      slice_get-row_of col in_trans in_write in_read lt refl refl refl
      ∙ ap (λ o. or_else in_trans (or_else in_write o)) (sym (or_else-twice in_read None source))
      ∙ ap (or_else in_trans) (sym (or_else-twice in_write (or_else in_read None) source))
      ∙ sym (or_else-twice in_trans (or_else in_write (or_else in_read None)) source)
      ∙ ap (λ o. or_else o source) same

-- what a layer's cells give, from what was found there
pub found_in : (col : ℕ) (cells : Cells) (found other : Option ValueRef) → option_map value_of found ≡ last_cell col None cells
    → found ≡ other → last_cell col None cells ≡ option_map value_of other
found_in col cells found other is same = sym is ∙ ap (option_map value_of) same

-- ---- the modifies at a SID, by a walk

module _ (sid : ℕ) where
  abbrev before_base : Entry → Bool
  before_base = stands_before base_cmp sid

  -- what stands before the base row's changes is no modify of it
  no_modify : (x : Entry) (es : List Entry) → T (before_base x) → cells_at sid (x ∷ es) ≡ cells_at sid es
  no_modify x es h = search rules

  no_modifies : (xs ys : List Entry) → T (list_all before_base xs) → cells_at sid (xs ++ ys) ≡ cells_at sid ys
  no_modifies [] ys h = refl
  no_modifies (x ∷ xs) ys h = no_modify x (xs ++ ys) (first (before_base x) _ h) ∙ no_modifies xs ys (second (before_base x) _ h)

  -- the modifies stand from the base row's place on
  pub cells_at-split : (es : List Entry) (n : ℕ) → IsSplit before_base es n → cells_at sid (drop n es) ≡ cells_at sid es
  cells_at-split es n h = sym (no_modifies (take n es) (drop n es) h.before) ∙ ap (cells_at sid) (take-append-drop n es)

module _ (key_cols sid : ℕ) where
  -- an entry at another SID that doesn't stand before the base row's changes ends the modifies
  pub cells_at-end : (x : Entry) (es : List Entry) → T (are_ordered key_cols (x ∷ es)) → T (not (stands_before base_cmp sid x))
      → (x.sid ≡ sid → ⊥) → cells_at sid (x ∷ es) ≡ []
  cells_at-end x es ordered after other = by (nat_cmp sid x.sid) refl
    where
      by : (r : Ordering) → nat_cmp sid x.sid ≡ r → cells_at sid (x ∷ es) ≡ []
      by Less e =
          let lt : sid < x.sid = ranked sid x.sid Less (sym e) in
          let near : suc sid ≤ x.sid = omega arith in
          ap modified_cells
          (changes_at_after sid (x ∷ es) (all_after-from sid (x ∷ es) (all_from-ordered key_cols (suc sid) x es ordered near)))
      by Equal e = absurd (other (sym (ranked sid x.sid Equal (sym e))))
      by Greater e = absurd (subst (λ r. T (not (is_gt (ordering_then r (base_cmp x.change))))) e after)

-- the value of a column so far, past an entry at the SID
pub last_cell-here : (col sid : ℕ) (x : Entry) (es : List Entry) (given found : Option ValueRef) → x.sid ≡ sid
    → option_map value_of given ≡ last_cell col None (modified_cells (x.change ∷ []))
    → last_cell col (option_map value_of (option_or given found)) (cells_at sid es) ≡ last_cell col (option_map value_of found)
    (cells_at sid (x ∷ es))
last_cell-here col sid x es given found here is = search rules

-- what is found in a column's place
pub value_in_place : (values : List (Option ValueRef)) (modified : List (Option Value)) (col : ℕ) → values_of values ≡ modified
    → col < length modified → (col < length values) × (slice_get modified col ≡ Some (option_map value_of (get_or values col None)))
value_in_place values modified col same lt = grind (arith, common_steps, length-map, slice_get-map, slice_get-get_or)

-- one value more in its place, where the places were lent for writing
pub values_of-set : (values : List (Option ValueRef)) (lent : List (Option ValueRef)) (col : ℕ) (value : ValueRef) → lent ≡ values
    → values_of (refill (length values) values (slice_set lent col (Some value))) ≡ slice_set (values_of values) col (Some (value_of value))
values_of-set values lent col value same = grind (arith, common_steps, length-set, drop_all, append-nil, take_all, map-set)

-- what is modified so far, past an entry at the SID
pub with_cells-here : (sid : ℕ) (x : Entry) (es : List Entry) (values : List (Option Value)) → x.sid ≡ sid
    → with_cells (cells_at sid es) (with_cells (modified_cells (x.change ∷ [])) values) ≡ with_cells (cells_at sid (x ∷ es)) values
with_cells-here sid x es values here = search rules

-- ---- rows of a stable table

-- only a row has values
pub inside : (rows : List Row) (sid : ℕ) → 0 < length (get_or rows sid []) → sid < length rows
inside [] sid h = absurd (omega arith)
inside (row ∷ rows) zero h = omega arith
inside (row ∷ rows) (suc sid) h = let next = inside rows sid h in omega arith

widths : (schema : Columns) (rows : List Row) → T (list_all (λ e. fits_schema schema e.1) (table_of schema.key_cols rows))
    → (sid : ℕ) → sid < length rows → length (get_or rows sid []) ≡ length schema.types
widths schema [] h sid lt = absurd (omega arith)
widths schema (row ∷ rows) h zero lt = length-fits schema row (first (fits_schema schema row) _ h)
widths schema (row ∷ rows) h (suc sid) lt =
    let shorter : sid < length rows = omega arith in widths schema rows (second (fits_schema schema row) _ h) sid shorter

-- each row of a stable table has a value for each column
pub stable_width : (s : Stable) (sid : ℕ) → IsStable s → sid < length s.rows → length (get_or s.rows sid []) ≡ length s.schema.types
stable_width s sid h lt = widths s.schema s.rows (passes (list_all (λ e. fits_schema s.schema e.1) (table_in s)) h.table.fitting) sid lt

-- past the last row there are no values
pub outside : (rows : List Row) (sid : ℕ) → length rows ≤ sid → length (get_or rows sid []) ≡ 0
outside [] sid h = refl
outside (row ∷ rows) zero h = absurd (omega arith)
outside (row ∷ rows) (suc sid) h = let shorter : length rows ≤ sid = omega arith in outside rows sid shorter
