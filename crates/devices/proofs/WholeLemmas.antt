-- Whether a generation is whole shows at the last block that isn't of a later one.
use Rattle.std.proofs.Common.{◌≡◌, ℕ, zero, suc, ◌-◌, ◌<◌, ◌≤◌, Bool, true, false, ◌&&◌, ◌||◌, eqb, leb, Option, Some, None, List, [], ◌∷◌, length, get_or, refl, ap, ◌∙◌, arith, rules}
use Rattle.std.specs.List.Sorted.{IsNonDecreasingBy, IsPartitionPoint}
use Rattle.std.proofs.lemmas.Bool.{leb-true, leb-false}
use Rattle.values.specs.declared.value.ColumnType.{ColumnType}
use Rattle.frames.specs.declared.frame.Part.{Part}
use Rattle.devices.specs.Stored.{is_whole}
use Rattle.devices.specs.Turns.{Follows, AreNext, IsInTurn}
use Rattle.std.proofs.lemmas.Grind.{common_steps}

-- whether the block is the last of the generation
abbrev pub ends : ℕ → Part → Bool
ends g part = part.last && eqb part.generation g

-- a later block is of no earlier generation, and of a later one where the block is the last of its own
record IsLater (before part : Part) : Type 0 where
  least : before.generation ≤ part.generation
  above : before.last ≡ true → before.generation < part.generation

-- the next block is
later_follows : (before part : Part) → Follows before part → IsLater before part
later_follows before part next = search rules

-- and each one after it
later_at : (ty : ColumnType) (before : Part) (parts : List Part) (n : ℕ) (d : Part) → AreNext ty (Some before) parts → n < length parts
    → IsLater before (get_or parts n d)
later_at ty before [] n d next lt = absurd (omega (arith, lt))
later_at ty before (part ∷ parts) zero d next lt = later_follows before part next.1
later_at ty before (part ∷ parts) (suc n) d next lt =
    grind (arith, common_steps, later_at ty part parts n d next.2 (omega (arith, lt)), later_follows)

-- generations don't fall
sorted : (ty : ColumnType) (before : Option Part) (parts : List Part) → AreNext ty before parts
    → IsNonDecreasingBy (λ p. p.generation) parts
sorted ty before [] next i j d le lt = absurd (omega (arith, lt))
sorted ty before (part ∷ parts) next zero zero d le lt = omega arith
sorted ty before (part ∷ parts) next zero (suc j) d le lt = (later_at ty part parts j d next.2 (omega (arith, lt))).least
sorted ty before (part ∷ parts) next (suc i) zero d le lt = absurd (omega (arith, le))
sorted ty before (part ∷ parts) next (suc i) (suc j) d le lt =
    sorted ty (Some part) parts next.2 i j d (omega (arith, le)) (omega (arith, lt))

-- whatever the type
pub generations_sorted : (parts : List Part) → IsInTurn parts → IsNonDecreasingBy (λ p. p.generation) parts
generations_sorted parts turn = sorted turn.0 None parts turn.1

-- ---- where it shows

-- a block that is no last one of the generation
no_end : (g : ℕ) (part : Part) → (part.last ≡ true → part.generation ≡ g → ⊥) → ends g part ≡ false
no_end g part never = search rules

-- or false changes nothing
or_false : (b : Bool) → (b || false) ≡ b
or_false true = refl
or_false false = refl

-- all blocks are of later generations
none_whole : (ty : ColumnType) (g : ℕ) (before : Option Part) (parts : List Part) → AreNext ty before parts
    → ((d : Part) → 0 < length parts → g < (get_or parts 0 d).generation) → is_whole g parts ≡ false
none_whole ty g before [] next above = refl
none_whole ty g before (part ∷ parts) next above =
    let here : g < part.generation = above part (omega arith) in
    let rest : is_whole g parts ≡ false =
    none_whole ty g (Some part) parts next.2 (λ (d : Part) some. let later = later_at ty part parts 0 d next.2 some in
    omega (arith, later.least, here)) in
    ap (λ b. b || is_whole g parts) (no_end g part (λ last same. omega (arith, same, here))) ∙ rest

-- the last block that isn't
whole_at : (ty : ColumnType) (g : ℕ) (before : Option Part) (parts : List Part) (n : ℕ) (d : Part) → AreNext ty before parts
    → n < length parts → (get_or parts n d).generation ≤ g
    → ((e : Part) → suc n < length parts → g < (get_or parts (suc n) e).generation) → is_whole g parts ≡ ends g (get_or parts n d)
whole_at ty g before [] n d next lt up above = absurd (omega (arith, lt))
whole_at ty g before (part ∷ parts) zero d next lt up above = grind (arith, common_steps, none_whole, or_false)
whole_at ty g before (part ∷ parts) (suc n) d next lt up above = grind (arith, common_steps, whole_at ty g (Some part) parts n d next.2 (omega (arith, lt)) up (λ (e : Part) (some : suc n < length parts). above e (omega (arith, some))), later_at, no_end)

-- whatever the type
pub is_whole-none : (g : ℕ) (parts : List Part) → IsInTurn parts → ((d : Part) → 0 < length parts → g < (get_or parts 0 d).generation)
    → is_whole g parts ≡ false
is_whole-none g parts turn above = none_whole turn.0 g None parts turn.1 above

-- it shows at the last block of the generation or an earlier one
pub is_whole-at : (g : ℕ) (parts : List Part) (n : ℕ) (d : Part) → IsInTurn parts → n < length parts → (get_or parts n d).generation ≤ g
    → ((e : Part) → suc n < length parts → g < (get_or parts (suc n) e).generation) → is_whole g parts ≡ ends g (get_or parts n d)
is_whole-at g parts n d turn lt up above = whole_at turn.0 g None parts n d turn.1 lt up above

-- ---- by halving

module _ (g : ℕ) (parts : List Part) (end : ℕ) (turn : IsInTurn parts) (bound : end ≤ length parts)
    (cut : IsPartitionPoint (λ p. leb p.generation g ≡ true) (λ p. leb p.generation g ≡ false) parts end) where
  -- blocks past the cut are of later generations
  past : (n : ℕ) (d : Part) → end ≤ n → n < length parts → g < (get_or parts n d).generation
  past n d le lt = leb-false _ _ (cut.1 n d le lt)

  -- none is of the generation or an earlier one
  pub none_before : end ≡ 0 → is_whole g parts ≡ false
  none_before e = is_whole-none g parts turn (λ (d : Part) (some : 0 < length parts). past 0 d (omega (arith, e)) some)

  -- the last that is
  pub shown_at : (d : Part) → 0 < end → is_whole g parts ≡ ends g (get_or parts (end - 1) d)
  shown_at d some = grind (arith, common_steps, leb-true, is_whole-at, past)
