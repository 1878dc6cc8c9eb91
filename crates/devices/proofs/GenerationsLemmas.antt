-- Which generation is the newest whole one, when columns have taken blocks of a newer one.
use Rattle.std.proofs.Common.{◌≡◌, ℕ, ◌<◌, Bool, true, false, cond, ◌&&◌, ◌||◌, eqb, Option, Some, None, List, [], ◌∷◌, ◌++◌, map, refl, sym, ap, ◌∙◌, inl, inr, arith}
use Rattle.std.specs.List.{AllByRecursion, list_all}
use Rattle.std.proofs.lemmas.Bool.{and_cases, and_parts, and_right, eq-eqb, ne_eqb, or_cases, or_from, or_parts}
use Rattle.values.specs.declared.value.ColumnType.{ColumnType}
use Rattle.frames.specs.declared.frame.Part.{Part}
use Rattle.devices.specs.Ready.{AreBelow}
use Rattle.devices.specs.Stored.{columns_in, ends_image, is_whole, newest_of, newest_whole, values_in}
use Rattle.std.proofs.lemmas.Grind.{common_steps}

-- the blocks of a column: those so far, and those of a newer generation
pub record Grown : Type 0 where
  pub front : List Part
  pub more : List Part

abbrev pub front_of : Grown → List Part
front_of c = c.front

abbrev pub all_of : Grown → List Part
all_of c = c.front ++ c.more

abbrev pub AreOf : ℕ → List Part → Type 0
AreOf g parts = AllByRecursion (λ p. p.generation ≡ g) parts

pub record IsGrown (g : ℕ) (c : Grown) : Type 0 where
  pub below : AreBelow g c.front
  pub newer : AreOf g c.more

and_true : (b : Bool) → (b && true) ≡ b
and_true true = refl
and_true false = refl

-- ---- one column

module _ (h g : ℕ) (other : h ≡ g → ⊥) where
  not_here : (p : Part) → p.generation ≡ g → eqb p.generation h ≡ false
  not_here p is = ne_eqb p.generation h (λ e. other (sym e ∙ is))

  is_whole-none : (more : List Part) → AreOf g more → is_whole h more ≡ false
  is_whole-none [] of = refl
  is_whole-none (p ∷ more) of = grind (arith, common_steps, is_whole-none more of.1, or_from, and_right, not_here)

  is_whole-front : (front more : List Part) → AreOf g more → is_whole h (front ++ more) ≡ is_whole h front
  is_whole-front [] more of = is_whole-none more of
  is_whole-front (p ∷ front) more of = ap (λ b. (p.last && eqb p.generation h) || b) (is_whole-front front more of)

  values_in-none : (more : List Part) → AreOf g more → values_in h more ≡ []
  values_in-none [] of = refl
  values_in-none (p ∷ more) of = ap (λ b. cond b p.block.values [] ++ values_in h more) (not_here p of.0) ∙ values_in-none more of.1

  values_in-front : (front more : List Part) → AreOf g more → values_in h (front ++ more) ≡ values_in h front
  values_in-front [] more of = values_in-none more of
  values_in-front (p ∷ front) more of = ap (λ vs. cond (eqb p.generation h) p.block.values [] ++ vs) (values_in-front front more of)

module _ (g : ℕ) where
  not_yet : (p : Part) → p.generation < g → eqb p.generation g ≡ false
  not_yet p lt = ne_eqb p.generation g (λ e. omega (arith, e, lt))

  pub is_whole-more : (front more : List Part) → AreBelow g front → is_whole g (front ++ more) ≡ is_whole g more
  is_whole-more [] more below = refl
  is_whole-more (p ∷ front) more below = grind (arith, common_steps, is_whole-more front more below.1, and_right, not_yet)

  pub values_in-more : (front more : List Part) → AreBelow g front → values_in g (front ++ more) ≡ values_in g more
  values_in-more [] more below = refl
  values_in-more (p ∷ front) more below =
      ap (λ b. cond b p.block.values [] ++ values_in g (front ++ more)) (not_yet p below.0) ∙ values_in-more front more below.1

-- ---- the columns side by side

module _ (h g : ℕ) (other : h ≡ g → ⊥) where
  all_whole-front : (cs : List Grown) → AllByRecursion (IsGrown g) cs
      → list_all (is_whole h) (map all_of cs) ≡ list_all (is_whole h) (map front_of cs)
  all_whole-front [] are = refl
  all_whole-front (c ∷ cs) are = grind (arith, common_steps, all_whole-front cs are.1, is_whole-front)

  pub columns_in-front : (types : List ColumnType) (cs : List Grown) → AllByRecursion (IsGrown g) cs
      → columns_in h types (map all_of cs) ≡ columns_in h types (map front_of cs)
  columns_in-front [] cs are = refl
  columns_in-front (ty ∷ types) [] are = refl
  columns_in-front (ty ∷ types) (c ∷ cs) are = grind (arith, common_steps, columns_in-front types cs are.1, values_in-front)

newest_of-append : (columns : List (List Part)) (best : Option ℕ) (parts more : List Part)
    → newest_of columns best (parts ++ more) ≡ newest_of columns (newest_of columns best parts) more
newest_of-append columns best [] more = refl
newest_of-append columns best (p ∷ parts) more = newest_of-append columns (cond (ends_image columns p) (Some p.generation) best) parts more

module _ (g : ℕ) (cs : List Grown) (are : AllByRecursion (IsGrown g) cs) where
  newest_of-front : (best : Option ℕ) (front : List Part) → AreBelow g front
      → newest_of (map all_of cs) best front ≡ newest_of (map front_of cs) best front
  newest_of-front best [] below = refl
  newest_of-front best (p ∷ front) below = grind (arith, common_steps, newest_of-front (cond (ends_image (map front_of cs) p) (Some p.generation) best) front below.1, all_whole-front)

  -- a generation that isn't whole everywhere is never the newest
  newest_of-part : list_all (is_whole g) (map all_of cs) ≡ false → (best : Option ℕ) (more : List Part) → AreOf g more
      → newest_of (map all_of cs) best more ≡ best
  newest_of-part lacks best [] of = refl
  newest_of-part lacks best (p ∷ more) of = grind (arith, common_steps, newest_of-part lacks best more of.1, and_right)

  -- one that is, is
  module _ (has : list_all (is_whole g) (map all_of cs) ≡ true) where
    ends_here : (p : Part) → p.generation ≡ g → ends_image (map all_of cs) p ≡ p.last
    ends_here p is = ap (λ b. p.last && b) (ap (λ h. list_all (is_whole h) (map all_of cs)) is ∙ has) ∙ and_true p.last

    newest_of-kept : (more : List Part) → AreOf g more → newest_of (map all_of cs) (Some g) more ≡ Some g
    newest_of-kept [] of = refl
    newest_of-kept (p ∷ more) of = grind (arith, common_steps, newest_of-kept more of.1)

    newest_of-whole : (best : Option ℕ) (more : List Part) → AreOf g more → is_whole g more ≡ true
        → newest_of (map all_of cs) best more ≡ Some g
    newest_of-whole best [] of whole = absurd cc
    newest_of-whole best (p ∷ more) of whole =
        elim (or_cases (p.last && eqb p.generation g) (is_whole g more) whole) [
          | inl here ↦
              let last : ends_image (map all_of cs) p ≡ true = ends_here p of.0 ∙ (and_parts p.last (eqb p.generation g) here).0 in
              ap (λ b. newest_of (map all_of cs) (cond b (Some p.generation) best) more) last
              ∙ ap (λ h. newest_of (map all_of cs) (Some h) more) of.0 ∙ newest_of-kept more of.1
          | inr later ↦ newest_of-whole (cond (ends_image (map all_of cs) p) (Some p.generation) best) more of.1 later
        ]

-- ---- the newest generation that is whole in each of the columns

-- blocks of a generation that lacks its end
newest_of-unended : (g : ℕ) (columns : List (List Part)) (best : Option ℕ) (more : List Part) → AreOf g more → is_whole g more ≡ false
    → newest_of columns best more ≡ best
newest_of-unended g columns best [] of lacks = refl
newest_of-unended g columns best (p ∷ more) of lacks =
    let parts = or_parts (p.last && eqb p.generation g) (is_whole g more) lacks in
    let unended : p.last ≡ false = sym (ap (λ b. p.last && b) (eq-eqb p.generation g of.0) ∙ and_true p.last) ∙ parts.0 in
    ap (λ b. newest_of columns (cond (b && list_all (is_whole p.generation) columns) (Some p.generation) best) more) unended
    ∙ newest_of-unended g columns best more of.1 parts.1

-- where a column lacks its end, it is the one that was
pub newest_whole-part : (g : ℕ) (cs : List Grown) → AllByRecursion (IsGrown g) cs → list_all (is_whole g) (map all_of cs) ≡ false
    → newest_whole (map all_of cs) ≡ newest_whole (map front_of cs)
newest_whole-part g [] are lacks = refl
newest_whole-part g (c ∷ cs) are lacks =
    grind (arith, common_steps, newest_of-append, newest_of-front, and_cases, newest_of-unended, is_whole-more, newest_of-part)

-- where each has it, it is the newer one
pub newest_whole-all : (g : ℕ) (c : Grown) (cs : List Grown) → AllByRecursion (IsGrown g) (c ∷ cs)
    → list_all (is_whole g) (map all_of (c ∷ cs)) ≡ true → newest_whole (map all_of (c ∷ cs)) ≡ Some g
newest_whole-all g c cs are has = grind (arith, common_steps, and_parts, is_whole-more, newest_of-append, newest_of-whole)

-- whether a generation is below this one, where there is one
abbrev IsBelow : ℕ → Option ℕ → Type 0
IsBelow g None = Unit {0}
IsBelow g (Some h) = h < g

newest_of-below : (g : ℕ) (columns : List (List Part)) (best : Option ℕ) (front : List Part) → IsBelow g best → AreBelow g front
    → IsBelow g (newest_of columns best front)
newest_of-below g columns best [] h below = h
newest_of-below g columns best (p ∷ front) h below =
    newest_of-below g columns (cond (ends_image columns p) (Some p.generation) best) front (by (ends_image columns p)) below.1
  where
    by : (b : Bool) → IsBelow g (cond b (Some p.generation) best)
    by true = below.0
    by false = h

pub newest_whole-below : (g : ℕ) (cs : List Grown) → AllByRecursion (IsGrown g) cs → (h : ℕ) → newest_whole (map front_of cs) ≡ Some h
    → h < g
newest_whole-below g [] are h is = absurd cc
newest_whole-below g (c ∷ cs) are h is =
    by (newest_of (map front_of cs) None c.front) (newest_of-below g (map front_of cs) None c.front tt are.0.below) is
  where
    by : (o : Option ℕ) → IsBelow g o → o ≡ Some h → h < g
    by None below e = absurd cc
    by (Some k) below e = let same : k ≡ h = cc in omega (arith, same, below)
