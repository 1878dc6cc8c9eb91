-- A row's key compared with a key cell by cell, and a key's place by halving.
use Rattle.std.proofs.Common.{◌≡◌, ℕ, zero, suc, ◌+◌, ◌<◌, ◌≤◌, min, true, false, T, Some, List, [], ◌∷◌, length, take, drop, get_or, slice_get, Ordering, Less, Equal, Greater, refl, sym, ap, ◌∙◌, arith, rules}
use Rattle.std.specs.Ordering.{nat_cmp, ordering_then}
use Rattle.std.specs.Cmp.{nat_cmp_is}
use Rattle.std.proofs.lemmas.Bool.{false_from_ne_true}
use Rattle.std.proofs.lemmas.List.{drop_more, get_or-take, length-take, get_or_default}
use Rattle.std.proofs.lemmas.Option.{slice_get-get_or, get_or_from_slice_get, slice_get_within, slice_get_read}
use Rattle.values.specs.Orders.{value_cmp, key_cmp}
use Rattle.values.specs.declared.row.Row.{Row}
use Rattle.values.specs.declared.row.Key.{Key}
use Rattle.values.specs.declared.value.Value.{Value}
use Rattle.model.specs.Maps.{is_sorted}
use Rattle.model.specs.Table.{table_of}
use Rattle.stable.proofs.RankLemmas.{is_below_key, parted}

drop_at : (xs : List Value) (i : ℕ) (x : Value) → slice_get xs i ≡ Some x → drop i xs ≡ x ∷ drop (i + 1) xs
drop_at xs i x e = drop_more xs i x (slice_get_within xs i x e) ∙ ap (λ y. y ∷ drop (i + 1) xs) (get_or_from_slice_get xs i x x e)

-- a cell of a row's key is the row's
pub key_cell : (n : ℕ) (row : Row) (i : ℕ) (v : Value) → i < n → slice_get row i ≡ Some v → slice_get (take n row) i ≡ Some v
key_cell n row i v lt e =
    let within = slice_get_within row i v e in
    slice_get-get_or (take n row) i v (omega (arith, length-take n row, within, lt))
    ∙ ap Some (get_or-take n row i v lt ∙ get_or_from_slice_get row i v v e)

-- the comparison from cell `i` on
pub step : (own key : List Value) (i : ℕ) (x y : Value) (o : Ordering) → slice_get own i ≡ Some x → slice_get key i ≡ Some y
    → value_cmp x y ≡ o → key_cmp (drop i own) (drop i key) ≡ ordering_then o (key_cmp (drop (i + 1) own) (drop (i + 1) key))
step own key i x y o p q e =
    (λ k. key_cmp (drop_at own i x p k) (drop_at key i y q k))
    ∙ ap (λ r. ordering_then r (key_cmp (drop (i + 1) own) (drop (i + 1) key))) e

-- the comparison with a key whose cells were lent, where the cells before `i` tie
pub compared : (n : ℕ) (row : Row) (key : Key) (cells : List Value) (i : ℕ) (x y cell : Value) (o : Ordering) → cells ≡ key
    → i < n → i < length cells → slice_get row i ≡ Some x → cell ≡ get_or cells i cell → y ≡ cell → value_cmp x y ≡ o
    → key_cmp (take n row) key ≡ key_cmp (drop i (take n row)) (drop i key)
    → key_cmp (take n row) key ≡ ordering_then o (key_cmp (drop (i + 1) (take n row)) (drop (i + 1) key))
compared n row key cells i x y cell o lent lt within here read is e so_far =
    let there : slice_get key i ≡ Some y =
    ap (λ (ys : List Value). slice_get ys i) (sym lent)
    ∙ slice_get_read cells (length cells) i cell refl within read
    ∙ ap Some (sym is) in
    so_far ∙ step (take n row) key i x y o (key_cell n row i x lt here) there e

-- a comparison that doesn't tie is the answer
pub decided : (o rest : Ordering) → (o ≡ Equal → ⊥) → ordering_then o rest ≡ o
decided Less rest h = refl
decided Equal rest h = absurd (h refl)
decided Greater rest h = refl

-- one more on either side leaves the comparison
cmp_more : (a b : ℕ) → nat_cmp (suc a) (suc b) ≡ nat_cmp a b
cmp_more a b = search rules

none_below_some : (b : ℕ) → nat_cmp 0 (suc b) ≡ Less
none_below_some b = sym (nat_cmp_is 0 (suc b) Less (omega arith))

some_above_none : (a : ℕ) → nat_cmp (suc a) 0 ≡ Greater
some_above_none a = sym (nat_cmp_is (suc a) 0 Greater (omega arith))

-- where all cells of the shorter tie, the lengths decide
pub ended : (own key : List Value) (i : ℕ) → i ≡ min (length own) (length key)
    → nat_cmp (length own) (length key) ≡ key_cmp (drop i own) (drop i key)
ended [] [] zero e = sym (nat_cmp_is 0 0 Equal refl)
ended [] (y ∷ key) zero e = none_below_some (length key)
ended (x ∷ own) [] zero e = some_above_none (length own)
ended (x ∷ own) (y ∷ key) zero e = absurd (omega (arith, e))
ended [] key (suc i) e = absurd (omega (arith, e))
ended (x ∷ own) [] (suc i) e = absurd (omega (arith, e))
ended (x ∷ own) (y ∷ key) (suc i) e = cmp_more (length own) (length key) ∙ ended own key i (omega (arith, e))

-- ---- halving

module _ (key_cols : ℕ) (key : Key) (rows : List Row) (sorted : T (is_sorted key_cmp (table_of key_cols rows))) (middle : ℕ)
    (within : middle < length rows) where
  pub low_part : is_below_key key_cols key (get_or rows middle []) ≡ true → (k : ℕ) (d : Row) → k ≤ middle
      → is_below_key key_cols key (get_or rows k d) ≡ true
  low_part is k d le =
      parted key_cols key rows sorted k middle d le within
      (ap (is_below_key key_cols key) (get_or_default rows middle d [] within) ∙ is)

  pub high_part : is_below_key key_cols key (get_or rows middle []) ≡ false → (k : ℕ) (d : Row) → middle ≤ k → k < length rows
      → is_below_key key_cols key (get_or rows k d) ≡ false
  high_part is k d le lt =
      false_from_ne_true (is_below_key key_cols key (get_or rows k d)) (λ passes.
      let there = parted key_cols key rows sorted middle k d le lt passes in
      let clash : true ≡ false = sym there ∙ ap (is_below_key key_cols key) (get_or_default rows middle d [] within) ∙ is in
      absurd (cc clash))
