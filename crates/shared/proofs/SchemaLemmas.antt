-- Columns that are the same one by one.
use Rattle.std.proofs.Common.{◌≡◌, ℕ, ◌+◌, ◌≤◌, List, Some, length, take, slice_get, sym, ◌∙◌, take_all}
use Rattle.std.proofs.lemmas.List.{take_more_same}
use Rattle.std.proofs.lemmas.Option.{slice_get_within, get_or_from_slice_get}
use Rattle.values.specs.Shape.{Columns}

pub same_so_far : {X : Type 0} (xs ys : List X) (k : ℕ) (x y : X) → slice_get xs k ≡ Some x → slice_get ys k ≡ Some y → x ≡ y
    → take k xs ≡ take k ys → take (k + 1) xs ≡ take (k + 1) ys
same_so_far xs ys k x y in_xs in_ys is here =
    take_more_same xs ys k x (slice_get_within xs k x in_xs) (slice_get_within ys k y in_ys) here
    (get_or_from_slice_get xs k x x in_xs ∙ is ∙ sym (get_or_from_slice_get ys k y x in_ys))

same_whole : {X : Type 0} (xs ys : List X) (n : ℕ) → length xs ≤ n → length ys ≤ n → take n xs ≡ take n ys → xs ≡ ys
same_whole xs ys n in_xs in_ys here = sym (take_all n xs in_xs) ∙ here ∙ take_all n ys in_ys

pub same_columns : (a b : Columns) (n : ℕ) → length a.names ≤ n → length b.names ≤ n → length a.types ≤ n → length b.types ≤ n
    → a.key_cols ≡ b.key_cols →
    take n a.types ≡ take n b.types → take n a.names ≡ take n b.names → a ≡ b
same_columns a b n a_names b_names a_types b_types keyed types names = λ i. record {
  names = same_whole a.names b.names n a_names b_names names i;
  types = same_whole a.types b.types n a_types b_types types i;
  key_cols = keyed i;
}
