-- What the layers modify of a row, over any stable rows.
use Rattle.std.proofs.Common.{◌≡◌, ◌∙◌, ℕ, zero, suc, ◌<◌, true, false, cond, Option, Some, None, is_some, List, [], ◌∷◌, ◌++◌, length, refl, sym, ap, arith}
use Rattle.std.proofs.Common.{length-set}
use Rattle.std.specs.Prelude.{Bool, ◌==◌, slice_get, slice_set}
use Rattle.values.specs.declared.row.Row.{Row}
use Rattle.values.specs.declared.value.Value.{Value}
use Rattle.model.specs.Effects.{Cells, set_cells}
use Rattle.merge.specs.View.{layer_cells, last_cell, own_cells, row_of, row_over, source_over, source_row}
use Rattle.merge.specs.declared.view.RowView.{RowView}
use Rattle.merge.proofs.ViewLemmas.{first_other, last_cell-so_far, length-set_cells, or_else, or_else-twice, other_first, same_next, slice_get-row_of}
use Rattle.std.proofs.lemmas.Grind.{common_steps}

last_cell-append : (col : ℕ) (so_far : Option Value) (xs ys : Cells)
    → last_cell col so_far (xs ++ ys) ≡ last_cell col (last_cell col so_far xs) ys
last_cell-append col so_far [] ys = refl
last_cell-append col so_far (c ∷ xs) ys = last_cell-append col (cond (c.0 == col) (Some c.1) so_far) xs ys

or_else-none : (a b : Option Value) → or_else a b ≡ None → (a ≡ None) × (b ≡ None)
or_else-none None b e = (refl, e)
or_else-none (Some value) b e = (cc, cc)

given-none : (b : Bool) (value : Value) → cond b (Some value) None ≡ None → b ≡ false
given-none true value e = cc
given-none false value e = refl

slice_get-slice_set_other : {X : Type 0} (xs : List X) (i j : ℕ) (x : X) → (i == j) ≡ false
    → slice_get (slice_set xs i x) j ≡ slice_get xs j
slice_get-slice_set_other [] i j x other = refl
slice_get-slice_set_other (y ∷ xs) zero zero x other = cc
slice_get-slice_set_other (y ∷ xs) zero (suc j) x other = refl
slice_get-slice_set_other (y ∷ xs) (suc i) zero x other = refl
slice_get-slice_set_other (y ∷ xs) (suc i) (suc j) x other = slice_get-slice_set_other xs i j x (same_next i j ∙ other)

-- cells of other columns change nothing in this one
slice_get-set_cells_none : (cells : Cells) (row : Row) (col : ℕ) → last_cell col None cells ≡ None
    → slice_get (set_cells cells row) col ≡ slice_get row col
slice_get-set_cells_none [] row col none = refl
slice_get-set_cells_none (c ∷ cells) row col none =
    let both = or_else-none (last_cell col None cells) (cond (c.0 == col) (Some c.1) None)
    (sym (last_cell-so_far col (cond (c.0 == col) (Some c.1) None) cells) ∙ none) in
    slice_get-set_cells_none cells (slice_set row c.0 c.1) col both.0
    ∙ slice_get-slice_set_other row c.0 col c.1 (given-none (c.0 == col) c.1 both.1)

-- a value put into lists as long: what they have at a place stays the same in both, or becomes that
put_same : {X : Type 0} (xs ys : List X) (i j : ℕ) (x : X) → length xs ≡ length ys → ((i == j) ≡ false → slice_get xs j ≡ slice_get ys j)
    → slice_get (slice_set xs i x) j ≡ slice_get (slice_set ys i x) j
put_same [] [] i j x long h = refl
put_same [] (b ∷ ys) i j x long h = absurd (omega (arith, long))
put_same (a ∷ xs) [] i j x long h = absurd (omega (arith, long))
put_same (a ∷ xs) (b ∷ ys) zero zero x long h = refl
put_same (a ∷ xs) (b ∷ ys) zero (suc j) x long h = h (first_other j)
put_same (a ∷ xs) (b ∷ ys) (suc i) zero x long h = h (other_first i)
put_same (a ∷ xs) (b ∷ ys) (suc i) (suc j) x long h =
    put_same xs ys i j x (omega (arith, long)) (λ apart. h (sym (same_next i j) ∙ apart))

-- cells that give a column a value give it to both of two rows as wide
set_cells-same : (cells : Cells) (row other : Row) (col : ℕ) → length row ≡ length other
    → (last_cell col None cells ≡ None → slice_get row col ≡ slice_get other col)
    → slice_get (set_cells cells row) col ≡ slice_get (set_cells cells other) col
set_cells-same [] row other col wide h = h refl
set_cells-same (c ∷ cells) row other col wide h =
    set_cells-same cells (slice_set row c.0 c.1) (slice_set other c.0 c.1) col
    (length-set row c.0 c.1 ∙ wide ∙ sym (length-set other c.0 c.1))
    (λ none. put_same row other c.0 col c.1 wide (λ apart. h (ap (λ b. last_cell col (cond b (Some c.1) None) cells) apart ∙ none)))

both_ways : {X : Type 0} (x y : X) (o : Option Value) → o ≡ None → is_some o ≡ true → x ≡ y
both_ways x y None none some = cc
both_ways x y (Some value) none some = cc

module _ (v : RowView) (col : ℕ) where
  abbrev pub in_trans : Option Value
  in_trans = last_cell col None (layer_cells v.trans)

  abbrev pub in_write : Option Value
  in_write = last_cell col None (layer_cells v.write)

  abbrev pub in_read : Option Value
  in_read = last_cell col None (layer_cells v.read)

  -- the value that the highest layer gives
  pub own_cell : last_cell col None (own_cells v) ≡ or_else in_trans (or_else in_write in_read)
  own_cell = grind (arith, common_steps, last_cell-append, last_cell-so_far, or_else)

  pub slice_get-row : col < length (row_of v)
      → slice_get (row_of v) col ≡ or_else (last_cell col None (own_cells v)) (slice_get (source_row v.source) col)
  slice_get-row lt = grind (arith, common_steps, slice_get-row_of, or_else, or_else-twice, own_cell)

  -- where no layer gives one, the value is that of the stable row
  pub kept_over : last_cell col None (own_cells v) ≡ None → (base : List Row)
      → slice_get (row_over base v) col ≡ slice_get (source_over base v.source) col
  kept_over none base = grind (arith, common_steps, or_else-none, or_else, own_cell, slice_get-set_cells_none)

  -- where one does, it is the one that they give, of rows as wide
  pub own_over : is_some (last_cell col None (own_cells v)) ≡ true → (base other : List Row)
      → length (row_over base v) ≡ length (row_over other v) → slice_get (row_over base v) col ≡ slice_get (row_over other v) col
  own_over some base other wide =
      let one = source_over base v.source in
      let two = source_over other v.source in
      let read = λ (row : Row). set_cells (layer_cells v.read) row in
      let write = λ (row : Row). set_cells (layer_cells v.write) (read row) in
      let to_read = λ (row : Row). length-set_cells (layer_cells v.read) row in
      let to_write = λ (row : Row). length-set_cells (layer_cells v.write) (read row) ∙ to_read row in
      let to_trans = λ (row : Row). length-set_cells (layer_cells v.trans) (write row) ∙ to_write row in
      let same : length one ≡ length two = sym (to_trans one) ∙ wide ∙ to_trans two in
      set_cells-same (layer_cells v.trans) (write one) (write two) col (to_write one ∙ same ∙ sym (to_write two))
      (λ trans.
      set_cells-same (layer_cells v.write) (read one) (read two) col (to_read one ∙ same ∙ sym (to_read two))
      (λ write_none.
      set_cells-same (layer_cells v.read) one two col same
      (λ read_none.
      both_ways (slice_get one col) (slice_get two col) (last_cell col None (own_cells v))
      (own_cell ∙ (λ i. or_else (trans i) (or_else (write_none i) (read_none i)))) some)))
