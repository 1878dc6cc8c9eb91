-- Names of columns, one after the other.
use Rattle.std.proofs.Common.{◌≡◌, ◌<◌, ◌+◌, ◌-◌, ℕ, suc, Bool, cond, Some, List, [], ◌∷◌, ◌||◌, ◌∙◌, sym, get_or, ap, refl, arith, length, take, slice_get, string_bytes, nat_eq}
use Rattle.std.specs.Prelude.{map, find, unwrap_or}
use Rattle.std.specs.List.{list_any, range_with_len}
use Rattle.std.specs.Option.{option_map}
use Rattle.std.specs.Cmp.Lexicographic.{pointwise}
use Rattle.std.proofs.lemmas.List.{take-map}
use Rattle.std.proofs.lemmas.Option.{slice_get-map, slice_get-get_or}
use Rattle.values.specs.Shape.{Column, names_of, name_at, stands_before}

-- a test of what a function makes is a test of what it is made of
pub list_any-map : {X Y : Type 0} (p : Y → Bool) (f : X → Y) (xs : List X) → list_any p (map f xs) ≡ list_any (λ x. p (f x)) xs
list_any-map p f [] = refl
list_any-map p f (x ∷ xs) = ap (λ b. p (f x) || b) (list_any-map p f xs)

-- the first of the numbers from `i` to `n` that passes is `i`, or else the first after it
pub find-range_with_len : (p : ℕ → Bool) (i n : ℕ) → i < n
    → find p (range_with_len i (n - i)) ≡ cond (p i) (Some i) (find p (range_with_len (i + 1) (n - (i + 1))))
find-range_with_len p i n h = let e : n - i ≡ suc (n - (i + 1)) = omega arith in rw e refl

-- a column's name stands before it where one of the columns before it has that name
pub stands_before-names_of : (cols : List Column) (col : ℕ) (column : Column) → slice_get cols col ≡ Some column
    → stands_before (names_of cols) col
    ≡ list_any (λ other. pointwise nat_eq (string_bytes other.0) (string_bytes column.0)) (take col cols)
stands_before-names_of cols col column here =
    let named : slice_get (names_of cols) col ≡ Some (string_bytes column.0) =
    slice_get-map (λ c. string_bytes c.0) cols col ∙ ap (option_map (λ c. string_bytes c.0)) here in
    let told : name_at (names_of cols) col ≡ string_bytes column.0 = ap (λ o. unwrap_or o []) named in
    rw (told, take-map) (list_any-map _ _ (take col cols))

-- where the columns before this one are tested, the first repeated name is this one or stands after it
pub find-stands_before : (cols : List Column) (col : ℕ) (name : List ℕ) (column : Column) (found : Bool) → col < length cols
    → name ≡ string_bytes (get_or cols col column).0
    → found ≡ list_any (λ other. pointwise nat_eq (string_bytes other.0) name) (take col cols)
    → find (stands_before (names_of cols)) (range_with_len col (length cols - col))
    ≡ cond found (Some col) (find (stands_before (names_of cols)) (range_with_len (col + 1) (length cols - (col + 1))))
find-stands_before cols col name column found below named tested =
    let before = stands_before-names_of cols col (get_or cols col column) (slice_get-get_or cols col column below) in
    let same : found ≡ stands_before (names_of cols) col =
    tested ∙ ap (λ n. list_any (λ other. pointwise nat_eq (string_bytes other.0) n) (take col cols)) named ∙ sym before in
    rw same (find-range_with_len (stands_before (names_of cols)) col (length cols) below)
