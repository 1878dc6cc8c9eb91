-- The laws of a merge.
use Rattle.std.proofs.Common.{◌≡◌, ◌∙◌, ℕ, zero, suc, ◌+◌, ◌<◌, Some, List, [], ◌∷◌, map, take, refl, ap, arith, is_lt, nat_cmp}
use Rattle.std.specs.Prelude.{slice_get, slice_set}
use Rattle.std.specs.List.{list_all}
use Rattle.std.proofs.lemmas.List.{map-append}
use Rattle.values.specs.Orders.{key_cmp}
use Rattle.values.specs.Shape.{key_of}
use Rattle.values.specs.declared.row.Row.{Row}
use Rattle.values.specs.declared.value.Value.{Value}
use Rattle.model.specs.declared.entry.Entry.{Entry}
use Rattle.model.specs.declared.entry.Change.{Change}
use Rattle.model.specs.declared.entry.Change.TheVariants.{Ins, Del, Mod}
use Rattle.model.specs.Entries.{are_ordered, change_cmp, entry_cmp}
use Rattle.model.specs.Merging.{changes_at, inserted_rows, left_of, merged_rows, merged_rows_from}
use Rattle.merge.specs.Image.{Stack, image_rows}
use Rattle.merge.specs.Laws.{Alter, Keeps, AMergeCommutes, APlaceholderIsEnough, AlteredEntriesAreOrdered}
use Rattle.merge.specs.Laws.{altered_change, altered_entry, altered_from, altered_row, altered_stack}
use Rattle.merge.specs.ColumnStretches.{column_cells}
use Rattle.std.proofs.lemmas.Grind.{common_steps}

module _ (f : Alter) where
  -- ---- a merge

  altered_from-set : (n col m : ℕ) (row : Row) (value : Value) → m ≡ n + col
      → slice_set (altered_from f n row) col (f m value) ≡ altered_from f n (slice_set row col value)
  altered_from-set n col m [] value is = refl
  altered_from-set n zero m (x ∷ row) value is =
      let e : m ≡ n = omega arith in ap (λ k. f k value ∷ altered_from f (suc n) row) e
  altered_from-set n (suc col) m (x ∷ row) value is =
      let e : m ≡ suc n + col = omega arith in ap (λ xs. f n x ∷ xs) (altered_from-set (suc n) col m row value e)

  altered_row-set : (col : ℕ) (row : Row) (value : Value)
      → slice_set (altered_row f row) col (f col value) ≡ altered_row f (slice_set row col value)
  altered_row-set col row value = altered_from-set 0 col col row value (omega arith)

  changes_at-altered : (sid : ℕ) (es : List Entry) → changes_at sid (map (altered_entry f) es) ≡ map (altered_change f) (changes_at sid es)
  changes_at-altered sid [] = refl
  changes_at-altered sid (e ∷ es) = grind (arith, common_steps, changes_at-altered sid es)

  inserted_rows-altered : (cs : List Change) → inserted_rows (map (altered_change f) cs) ≡ map (altered_row f) (inserted_rows cs)
  inserted_rows-altered [] = refl
  inserted_rows-altered (Ins row ∷ cs) = ap (λ xs. altered_row f row ∷ xs) (inserted_rows-altered cs)
  inserted_rows-altered (Del key ∷ cs) = inserted_rows-altered cs
  inserted_rows-altered (Mod col value ∷ cs) = inserted_rows-altered cs

  left_of-altered : (row : Row) (cs : List Change)
      → left_of (altered_row f row) (map (altered_change f) cs) ≡ map (altered_row f) (left_of row cs)
  left_of-altered row [] = refl
  left_of-altered row (Ins new ∷ cs) = left_of-altered row cs
  left_of-altered row (Del key ∷ cs) = refl
  left_of-altered row (Mod col value ∷ cs) =
      ap (λ r. left_of r (map (altered_change f) cs)) (altered_row-set col row value) ∙ left_of-altered (slice_set row col value) cs

  merged_rows_from-altered : (sid : ℕ) (rows : List Row) (es : List Entry)
      → merged_rows_from sid (map (altered_row f) rows) (map (altered_entry f) es) ≡ map (altered_row f) (merged_rows_from sid rows es)
  merged_rows_from-altered sid [] es = ap inserted_rows (changes_at-altered sid es) ∙ inserted_rows-altered (changes_at sid es)
  merged_rows_from-altered sid (row ∷ rows) es = grind (arith, common_steps, merged_rows_from-altered (suc sid) rows es, changes_at-altered, inserted_rows-altered, left_of-altered, map-append)

  merged_rows-altered : (rows : List Row) (es : List Entry)
      → merged_rows (map (altered_row f) rows) (map (altered_entry f) es) ≡ map (altered_row f) (merged_rows rows es)
  merged_rows-altered rows es = merged_rows_from-altered 0 rows es

  image_rows-altered : (s : Stack) → image_rows (altered_stack f s) ≡ map (altered_row f) (image_rows s)
  image_rows-altered s = grind (arith, common_steps, merged_rows-altered)

  -- ---- a column whose values stay

  slice_get-altered : (n col m : ℕ) (row : Row) → m ≡ n + col → Keeps f m → slice_get (altered_from f n row) col ≡ slice_get row col
  slice_get-altered n col m [] is keeps = refl
  slice_get-altered n zero m (x ∷ row) is keeps =
      let e : n ≡ m = omega arith in ap Some (ap (λ k. f k x) e ∙ keeps x)
  slice_get-altered n (suc col) m (x ∷ row) is keeps =
      let e : m ≡ suc n + col = omega arith in slice_get-altered (suc n) col m row e keeps

  column_cells-altered : (col : ℕ) (rows : List Row) → Keeps f col → column_cells col (map (altered_row f) rows) ≡ column_cells col rows
  column_cells-altered col [] keeps = refl
  column_cells-altered col (row ∷ rows) keeps =
      let own = slice_get-altered 0 col col row (omega arith) keeps in
      let rest = column_cells-altered col rows keeps in
      λ i. own i ∷ rest i

  -- ---- the order of entries, where the values of the key stay

  module _ (key_cols : ℕ) (keeps : (col : ℕ) → col < key_cols → Keeps f col) where
    take-altered : (n k : ℕ) (row : Row) → n + k ≡ key_cols → take k (altered_from f n row) ≡ take k row
    take-altered n zero row is = refl
    take-altered n (suc k) [] is = refl
    take-altered n (suc k) (x ∷ row) is =
        let near : n < key_cols = omega (arith, is) in
        let next : suc n + k ≡ key_cols = omega (arith, is) in
        let own = keeps n near x in
        let rest = take-altered (suc n) k row next in
        λ i. own i ∷ rest i

    key_of-altered : (row : Row) → key_of key_cols (altered_row f row) ≡ key_of key_cols row
    key_of-altered row = take-altered 0 key_cols row (omega arith)

    change_cmp-altered : (x y : Change) → change_cmp key_cols (altered_change f x) (altered_change f y) ≡ change_cmp key_cols x y
    change_cmp-altered (Ins row) (Ins other) = λ i. key_cmp (key_of-altered row i) (key_of-altered other i)
    change_cmp-altered (Ins row) (Del key) = refl
    change_cmp-altered (Ins row) (Mod col value) = refl
    change_cmp-altered (Del key) (Ins other) = refl
    change_cmp-altered (Del key) (Del other) = refl
    change_cmp-altered (Del key) (Mod col value) = refl
    change_cmp-altered (Mod col value) (Ins other) = refl
    change_cmp-altered (Mod col value) (Del key) = refl
    change_cmp-altered (Mod col value) (Mod other w) = refl

    all_after-altered : (x : Entry) (es : List Entry)
        → list_all (λ y. is_lt (entry_cmp key_cols (altered_entry f x) y)) (map (altered_entry f) es)
        ≡ list_all (λ y. is_lt (entry_cmp key_cols x y)) es
    all_after-altered x [] = refl
    all_after-altered x (y ∷ es) = grind (arith, common_steps, all_after-altered x es, change_cmp-altered, nat_cmp)

    are_ordered-altered : (es : List Entry) → are_ordered key_cols (map (altered_entry f) es) ≡ are_ordered key_cols es
    are_ordered-altered [] = refl
    are_ordered-altered (x ∷ es) = grind (arith, common_steps, are_ordered-altered es, all_after-altered)

pub a_merge_commutes : AMergeCommutes
a_merge_commutes f rows entries = merged_rows-altered f rows entries

pub a_placeholder_is_enough : APlaceholderIsEnough
a_placeholder_is_enough f s col keeps =
    ap (column_cells col) (image_rows-altered f s) ∙ column_cells-altered f col (image_rows s) keeps

pub altered_entries_are_ordered : AlteredEntriesAreOrdered
altered_entries_are_ordered f key_cols entries keeps = are_ordered-altered f key_cols keeps entries
