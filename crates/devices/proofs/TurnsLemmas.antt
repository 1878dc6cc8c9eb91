-- Blocks in turn: how many values of a generation stand before one of its blocks.
use Rattle.std.proofs.Common.{◌≡◌, ℕ, ◌+◌, ◌*◌, ◌<◌, false, cond, eqb, Option, Some, None, List, [], ◌∷◌, ◌++◌, length, refl, sym, ap, subst, ◌∙◌, append_assoc, arith, rules}
use Rattle.std.proofs.lemmas.Bool.{eq-eqb}
use Rattle.std.proofs.lemmas.List.{append-nil, length-append}
use Rattle.std.proofs.lemmas.Grind.{flat_map-append}
use Rattle.values.specs.declared.value.ColumnType.{ColumnType}
use Rattle.values.specs.declared.value.Value.{Value}
use Rattle.frames.specs.declared.frame.Part.{Part}
use Rattle.devices.specs.Stored.{values_in}
use Rattle.devices.specs.Turns.{IsPartOf, IsNext, AreNext, AreInTurn}
use Rattle.std.proofs.lemmas.Grind.{common_steps}

-- the values of a generation in one block
abbrev own_values : ℕ → Part → List Value
own_values g part = cond (eqb part.generation g) part.block.values []

-- those of a block of the generation
own_here : (g : ℕ) (part : Part) → part.generation ≡ g → own_values g part ≡ part.block.values
own_here g part is = ap (λ b. cond b part.block.values []) (eq-eqb part.generation g is)

-- so many values of a generation stand up to this block: none before its first, 1,024 in each of its own
record AreCounted (g : ℕ) (before : Part) (count : ℕ) : Type 0 where
  none : before.generation < g → count ≡ 0
  full : before.generation ≡ g → before.last ≡ false → count ≡ 1024 * (before.number + 1)

-- after this block, where there is one
abbrev AreBefore : ℕ → Option Part → ℕ → Type 0
AreBefore g None count = count ≡ 0
AreBefore g (Some before) count = AreCounted g before count

-- a block of the generation stands after its number of full ones
counted_here : (g : ℕ) (before : Option Part) (part : Part) (count : ℕ) → AreBefore g before count → IsNext before part
    → part.generation ≡ g → count ≡ 1024 * part.number
counted_here g None part count none next is = omega (arith, none, next)
counted_here g (Some before) part count counted next is = search rules

-- one block more
counted_on : (ty : ColumnType) (g : ℕ) (before : Option Part) (part : Part) (count : ℕ) → IsPartOf ty part → AreBefore g before count
    → IsNext before part → AreBefore g (Some part) (count + length (own_values g part))
counted_on ty g before part count is counted next = search rules

-- what a block of a generation is, and how many of the generation's values stand before it
pub record IsStacked (ty : ColumnType) (count : ℕ) (part : Part) : Type 0 where
  pub is : IsPartOf ty part
  pub full : count ≡ 1024 * part.number

-- a block of the generation, after this block and others
stacked_after : (ty : ColumnType) (g : ℕ) (before : Option Part) (front back : List Part) (part : Part) (count : ℕ)
    → AreBefore g before count → AreNext ty before (front ++ part ∷ back) → part.generation ≡ g
    → IsStacked ty (count + length (values_in g front)) part
stacked_after ty g before [] back part count counted next is = grind (arith, common_steps, counted_here)
stacked_after ty g before (first ∷ front) back part count counted next is = grind (arith, common_steps, stacked_after ty g (Some first) front back part (count + length (own_values g first)) (counted_on ty g before first count next.0 counted next.1) next.2 is, counted_on, length-append)

-- a block of a generation among blocks in turn
pub stacked : (ty : ColumnType) (g : ℕ) (parts front back : List Part) (part : Part) → AreInTurn ty parts → front ++ part ∷ back ≡ parts
    → part.generation ≡ g → IsStacked ty (length (values_in g front)) part
stacked ty g parts front back part turn split is =
    let from_none = stacked_after ty g None front back part 0 refl (subst (AreInTurn ty) (sym split) turn) is in
    record { is = from_none.is; full = omega (arith, from_none.full) }

-- ---- one block more

-- the values of a generation, one block more
values_push : (g : ℕ) (front : List Part) (part : Part) → values_in g (front ++ part ∷ []) ≡ values_in g front ++ own_values g part
values_push g front part = flat_map-append (own_values g) front (part ∷ [])
    ∙ ap (λ vs. values_in g front ++ vs) (append-nil (own_values g part))

-- a block of the generation
pub values_more : (g : ℕ) (front : List Part) (part : Part) → part.generation ≡ g
    → values_in g (front ++ part ∷ []) ≡ values_in g front ++ part.block.values
values_more g front part is = values_push g front part ∙ ap (λ vs. values_in g front ++ vs) (own_here g part is)

-- of another generation
pub values_other : (g : ℕ) (front : List Part) (part : Part) → (part.generation ≡ g → part.block.values ≡ [])
    → values_in g (front ++ part ∷ []) ≡ values_in g front
values_other g front part none = grind (arith, common_steps)

-- the blocks so far, one more of them
pub taken_on : (parts front back : List Part) (part : Part) → front ++ part ∷ back ≡ parts → (front ++ part ∷ []) ++ back ≡ parts
taken_on parts front back part split = append_assoc front (part ∷ []) back ∙ split

-- no value at all
no_values : (values : List Value) → length values ≡ 0 → values ≡ []
no_values [] none = refl
no_values (v ∷ values) none = absurd (omega (arith, none))

-- a block that is let go
pub values_none : (g : ℕ) (front : List Part) (part : Part) → length part.block.values ≡ 0
    → values_in g (front ++ part ∷ []) ≡ values_in g front
values_none g front part none = values_other g front part (λ _. no_values part.block.values none)

-- no block is left
pub all_taken : (front back parts : List Part) → length back ≡ 0 → front ++ back ≡ parts → front ≡ parts
all_taken front [] parts none split = sym (append-nil front) ∙ split
all_taken front (part ∷ back) parts none split = absurd (omega (arith, none))
