-- The columns of a generation, and the image that they are.
use Rattle.std.proofs.Common.{◌≡◌, ℕ, suc, ◌<◌, ◌≤◌, List, [], ◌∷◌, ◌++◌, length, drop, map, get_or, refl, sym, ap, subst, ◌∙◌, append_assoc, arith}
use Rattle.std.proofs.Math.Seq.{get_or-append_seam}
use Rattle.std.proofs.lemmas.List.{length-append, length-map, map-append, get_or-map}
use Rattle.values.specs.declared.value.ColumnType.{ColumnType}
use Rattle.values.specs.declared.value.ColumnType.TheVariants as column
use Rattle.blocks.specs.Column.{Column}
use Rattle.frames.specs.declared.frame.Part.{Part}
use Rattle.devices.specs.Stored.{values_in, columns_in}
use Rattle.devices.specs.Turns.{AreInTurn, AreAllInTurn, AreEachInTurn}
use Rattle.std.proofs.lemmas.Grind.{common_steps}

-- the column of a generation in a column's blocks
abbrev pub column_of : ℕ → ColumnType → List Part → Column
column_of g ty parts = record { ty = ty; values = values_in g parts }

-- no column at all
columns_none : (g : ℕ) (types : List ColumnType) → columns_in g types [] ≡ []
columns_none g [] = refl
columns_none g (ty ∷ types) = refl

-- one column more
columns_push : (g : ℕ) (types : List ColumnType) (front : List (List Part)) (parts : List Part) → length front < length types
    → columns_in g types (front ++ parts ∷ []) ≡ columns_in g types front ++ column_of g (get_or types (length front) column.Int) parts ∷ []
columns_push g [] front parts lt = absurd (omega arith)
columns_push g (ty ∷ types) [] parts lt = ap (λ cs. column_of g ty parts ∷ cs) (columns_none g types)
columns_push g (ty ∷ types) (first ∷ front) parts lt =
    ap (λ cs. column_of g ty first ∷ cs) (columns_push g types front parts (omega (arith, lt)))

-- a column for each
length-columns_in : (g : ℕ) (types : List ColumnType) (columns : List (List Part)) → length columns ≤ length types
    → length (columns_in g types columns) ≡ length columns
length-columns_in g [] [] le = refl
length-columns_in g [] (parts ∷ columns) le = absurd (omega (arith, le))
length-columns_in g (ty ∷ types) [] le = refl
length-columns_in g (ty ∷ types) (parts ∷ columns) le = ap suc (length-columns_in g types columns (omega (arith, le)))

-- of its type
pub types-columns_in : (g : ℕ) (types : List ColumnType) (columns : List (List Part)) → length columns ≡ length types
    → map (λ c. c.ty) (columns_in g types columns) ≡ types
types-columns_in g [] [] even = refl
types-columns_in g [] (parts ∷ columns) even = refl
types-columns_in g (ty ∷ types) [] even = absurd (omega (arith, even))
types-columns_in g (ty ∷ types) (parts ∷ columns) even = ap (λ ts. ty ∷ ts) (types-columns_in g types columns (omega (arith, even)))

-- one column more in turn
pub all_in_turn_push : (types : List ColumnType) (columns : List (List Part)) (parts : List Part) → AreAllInTurn types columns
    → AreInTurn (get_or types (length columns) column.Int) parts → AreAllInTurn types (columns ++ parts ∷ [])
all_in_turn_push types columns parts are next col lt = grind (arith, common_steps)

-- ---- the columns so far

module _ {V : Type 0} (items : V → List Part) (g : ℕ) (types : List ColumnType) (all front back : List V) (one : V)
    (even : length all ≡ length types) (split : front ++ one ∷ back ≡ all) where
  -- fewer than all
  pub so_far_few : length front < length types
  so_far_few = omega (arith, even, ap (λ vs. length vs) split, length-append front (one ∷ back))

  module _ (made : List Column) (so_far : made ≡ columns_in g types (map items front)) where
    -- a column for each
    pub length-made : length made ≡ length front
    length-made = grind (arith, common_steps, so_far_few, length-map, length-columns_in)

    -- the next one's blocks are in turn
    pub next_in_turn : AreAllInTurn types (map items all) → AreInTurn (get_or types (length made) column.Int) (items one)
    next_in_turn turn =
        let there : length front < length (map items all) = omega (arith, so_far_few, even, length-map all items) in
        let here : get_or (map items all) (length front) [] ≡ items one =
        get_or-map items all (length front) one [] (omega (arith, so_far_few, even))
        ∙ ap items (ap (λ vs. get_or vs (length front) one) (sym split) ∙ get_or-append_seam front one back one) in
        subst (λ (n : ℕ). AreInTurn (get_or types n column.Int) (items one)) (sym length-made)
        (subst (AreInTurn (get_or types (length front) column.Int)) here (turn (length front) there))

    -- the next one
    pub made_on :
        made ++ column_of g (get_or types (length made) column.Int) (items one) ∷ []
        ≡ columns_in g types (map items (front ++ one ∷ []))
    made_on =
        let few : length (map items front) < length types = omega (arith, so_far_few, length-map front items) in
        ap (λ n. made ++ column_of g (get_or types n column.Int) (items one) ∷ []) (length-made ∙ sym (length-map front items))
        ∙ ap (λ cs. cs ++ column_of g (get_or types (length (map items front)) column.Int) (items one) ∷ []) so_far
        ∙ sym (columns_push g types (map items front) (items one) few)
        ∙ ap (columns_in g types) (sym (map-append items front (one ∷ [])))

  -- the columns so far, one more of them
  pub columns_taken : (front ++ one ∷ []) ++ back ≡ all
  columns_taken = append_assoc front (one ∷ []) back ∙ split

-- ---- the columns after the first

-- are in turn where all are
pub others_in_turn : {V : Type 0} (items : V → List Part) (columns : List V) → AreEachInTurn (map items columns)
    → AreEachInTurn (map items (drop 1 columns))
others_in_turn items [] turn = turn
others_in_turn items (first ∷ columns) turn = λ col lt. turn (suc col) (omega (arith, lt))

-- whatever their types
pub each_in_turn : (types : List ColumnType) (columns : List (List Part)) → AreAllInTurn types columns → AreEachInTurn columns
each_in_turn types columns turn col lt = (get_or types col column.Int, turn col lt)
