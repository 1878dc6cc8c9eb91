-- Cells one after the other.
use Rattle.std.proofs.Common.{◌≡◌, ℕ, ◌+◌, ◌<◌, List, [], ◌∷◌, ◌++◌, append_assoc, length, take, drop, map, set, get_or, refl, sym, ap, ◌∙◌, arith}
use Rattle.std.specs.Prelude.{ℤ, Some, slice_get}
use Rattle.std.specs.List.{flat_map}
use Rattle.std.proofs.lemmas.List.{take_more, take_more_set, map-append, append-nil, drop-drop, length-drop, get_or-drop}
use Rattle.std.proofs.lemmas.Option.{slice_get_within, slice_get-get_or, get_or_from_slice_get}
use Rattle.values.specs.declared.value.Value.{Value}
use Rattle.pdt_c.specs.Cells.{bytes_of, number_of, texts_of}

-- what cells have of these is what the first of them say, also with the next one
pub map_more : {X : Type 0} (f : Value → X) (cells : List Value) (cell : Value) (xs : List X) (col : ℕ) (d : X) → col < length xs
    → map f cells ≡ take col xs → f cell ≡ get_or xs col d → map f (cells ++ cell ∷ []) ≡ take (col + 1) xs
map_more f cells cell xs col d within so_far is =
    map-append f cells (cell ∷ []) ∙ (λ i. so_far i ++ is i ∷ []) ∙ sym (take_more xs col d within)

pub flat_map-append : (xs ys : List Value) → flat_map bytes_of (xs ++ ys) ≡ flat_map bytes_of xs ++ flat_map bytes_of ys
flat_map-append [] ys = refl
flat_map-append (x ∷ xs) ys =
    ap (λ rest. bytes_of x ++ rest) (flat_map-append xs ys)
    ∙ sym (append_assoc (bytes_of x) (flat_map bytes_of xs) (flat_map bytes_of ys))

-- the bytes of the next cell go from those that are left to those so far
pub bytes_move : (cells : List Value) (cell : Value) (rest left all : List ℕ) → flat_map bytes_of cells ++ rest ≡ all
    → bytes_of cell ++ left ≡ rest → flat_map bytes_of (cells ++ cell ∷ []) ++ left ≡ all
bytes_move cells cell rest left all so_far next =
    ap (λ bytes. bytes ++ left)
    (flat_map-append cells (cell ∷ []) ∙ ap (λ bytes. flat_map bytes_of cells ++ bytes) (append-nil (bytes_of cell)))
    ∙ append_assoc (flat_map bytes_of cells) (bytes_of cell) left
    ∙ ap (λ bytes. flat_map bytes_of cells ++ bytes) next ∙ so_far

-- ---- cells that C is handed

cell_more : (cells : List Value) (col : ℕ) (v : Value) → slice_get cells col ≡ Some v → take (col + 1) cells ≡ take col cells ++ v ∷ []
cell_more cells col v e =
    take_more cells col v (slice_get_within cells col v e)
    ∙ ap (λ (x : Value). take col cells ++ x ∷ []) (get_or_from_slice_get cells col v v e)

pub number_put : (numbers : List ℤ) (cells : List Value) (col : ℕ) (v : Value) → col < length numbers → slice_get cells col ≡ Some v
    → take col numbers ≡ map number_of (take col cells)
    → take (col + 1) (set numbers col (number_of v)) ≡ map number_of (take (col + 1) cells)
number_put numbers cells col v within e so_far =
    take_more_set numbers col (number_of v) within ∙ ap (λ (xs : List ℤ). xs ++ number_of v ∷ []) so_far
    ∙ sym (ap (map number_of) (cell_more cells col v e) ∙ map-append number_of (take col cells) (v ∷ []))

pub text_put : (before after : List ℕ) (cells : List Value) (col : ℕ) (v : Value) (bytes end : ℕ) → slice_get cells col ≡ Some v
    → take bytes before ≡ texts_of (take col cells) → take end after ≡ take bytes before ++ bytes_of v
    → take end after ≡ texts_of (take (col + 1) cells)
text_put before after cells col v bytes end e so_far put =
    put ∙ ap (λ (xs : List ℕ). xs ++ bytes_of v) so_far
    ∙ sym (ap texts_of (cell_more cells col v e) ∙ flat_map-append (take col cells) (v ∷ [])
    ∙ ap (λ (xs : List ℕ). texts_of (take col cells) ++ xs) (append-nil (bytes_of v)))

-- the next of the cells that are left
module _ (cells : List Value) (i : ℕ) (v : Value) (rest : List Value) (left : drop i cells ≡ v ∷ rest) where
  pub next_within : i < length cells
  next_within = omega (arith, ap length left, length-drop i cells)

  pub next_is : slice_get cells i ≡ Some v
  next_is =
      slice_get-get_or cells i v next_within
      ∙ ap (λ (x : Value). Some x)
      (sym (get_or-drop i cells 0 v ∙ ap (λ n. get_or cells n v) (omega arith)) ∙ ap (λ (xs : List Value). get_or xs 0 v) left)

  pub next_rest : drop (i + 1) cells ≡ rest
  next_rest = sym (drop-drop 1 i cells) ∙ ap (drop 1) left
