-- The newest generation of columns that can be read is the greatest that is whole in each of them.
use Rattle.std.proofs.Common.{◌≡◌, ℕ, ◌-◌, ◌<◌, ◌≤◌, ◌⊎◌, true, cond, ◌&&◌, Option, Some, None, List, [], ◌∷◌, ◌++◌, length, take, get_or, Result, Ok, refl, ap, subst, ◌∙◌, inl, inr, arith, rules}
use Rattle.std.specs.List.{list_all}
use Rattle.std.proofs.lemmas.Bool.{and_parts}
use Rattle.std.proofs.lemmas.List.{take_more}
use Rattle.values.specs.declared.value.ColumnType.{ColumnType}
use Rattle.frames.specs.declared.fault.ReadFault.{ReadFault}
use Rattle.frames.specs.declared.frame.Part.{Part}
use Rattle.frames.specs.Laws.{WhatReadsIsAColumn}
use Rattle.frames.specs.Reading.{◌>>=◌, frames_of, parts_after}
use Rattle.devices.specs.Laws.{IsWholeInAll, IsGreatest, NewestIsTheGreatest}
use Rattle.devices.specs.Stored.{all_parts, ends_image, is_whole, newest_of, newest_whole}
use Rattle.devices.specs.Turns.{IsNext, AreNext, AreInTurn}
use Rattle.devices.proofs.GrammarLemmas.{read_in_turn}
use Rattle.frames.proofs.WholeLemmas.{step_ok}
use Rattle.std.proofs.lemmas.Grind.{common_steps}

-- the last block before which the newest is sought
pub newest_of-push : (others : List (List Part)) (best : Option ℕ) (front : List Part) (part : Part)
    → newest_of others best (front ++ part ∷ []) ≡ cond (ends_image others part) (Some part.generation) (newest_of others best front)
newest_of-push others best [] part = refl
newest_of-push others best (first ∷ front) part =
    newest_of-push others (cond (ends_image others first) (Some first.generation) best) front part

-- of the first blocks, by the last of them
pub newest_of-take : (others : List (List Part)) (parts : List Part) (end : ℕ) (part : Part) → 0 < end → end ≤ length parts
    → part ≡ get_or parts (end - 1) part
    → newest_of others None (take end parts)
    ≡ cond (ends_image others part) (Some part.generation) (newest_of others None (take (end - 1) parts))
newest_of-take others parts end part some le is = grind (arith, common_steps, take_more, newest_of-push)

-- numbers of the same kind have one greatest
greatest_same : (P Q : ℕ → Type 0) → ((g : ℕ) → P g → Q g) → ((g : ℕ) → Q g → P g) → (o : Option ℕ) → IsGreatest P o → IsGreatest Q o
greatest_same P Q to from None h = λ g q. h g (from g q)
greatest_same P Q to from (Some g) h = (to g h.0, λ other q. h.1 other (from other q))

-- a generation is no greater than that of this block
abbrev IsUpTo : Option Part → ℕ → Type 0
IsUpTo None g = ⊥
IsUpTo (Some before) g = g ≤ before.generation

-- generations don't fall
up_to_next : (before : Option Part) (part : Part) (g : ℕ) → IsNext before part → IsUpTo before g → g ≤ part.generation
up_to_next None part g next le = absurd le
up_to_next (Some before) part g next le = search rules

module _ (others : List (List Part)) where
  -- a generation whole among blocks of the first column, and in the other columns
  abbrev IsWholeHere : List Part → ℕ → Type 0
  IsWholeHere parts g = (is_whole g parts ≡ true) × (list_all (is_whole g) others ≡ true)

  -- one that this block ends
  abbrev IsEndedBy : Part → ℕ → Type 0
  IsEndedBy part g = (part.generation ≡ g) × (ends_image others part ≡ true)

  -- the greatest so far, and what one block more makes of it
  greatest_next : (P : ℕ → Type 0) (best : Option ℕ) (part : Part) → IsGreatest P best → ((g : ℕ) → P g → g ≤ part.generation)
      → IsGreatest (λ g. P g ⊎ IsEndedBy part g) (cond (ends_image others part) (Some part.generation) best)
  greatest_next P best part is below = search rules

  -- ---- whole among one block more

  -- by this block or by a later one
  split_whole : (part : Part) (parts : List Part) (g : ℕ) → IsWholeHere (part ∷ parts) g → IsEndedBy part g ⊎ IsWholeHere parts g
  split_whole part parts g h = search rules

  -- by this block
  ended_whole : (part : Part) (parts : List Part) (g : ℕ) → IsEndedBy part g → IsWholeHere (part ∷ parts) g
  ended_whole part parts g e = search rules

  -- by a later one
  later_whole : (part : Part) (parts : List Part) (g : ℕ) → IsWholeHere parts g → IsWholeHere (part ∷ parts) g
  later_whole part parts g h = search rules

  -- ---- all blocks

  -- what all blocks make of the greatest so far
  greatest_of : (ty : ColumnType) (before : Option Part) (parts : List Part) (P : ℕ → Type 0) (best : Option ℕ) → AreNext ty before parts
      → ((g : ℕ) → P g → IsUpTo before g) → IsGreatest P best
      → IsGreatest (λ g. P g ⊎ IsWholeHere parts g) (newest_of others best parts)
  greatest_of ty before [] P best next up is = search rules
  greatest_of ty before (part ∷ parts) P best next up is =
      let below : (g : ℕ) → P g → g ≤ part.generation = λ g (p : P g). up_to_next before part g next.1 (up g p) in
      let rest =
      greatest_of ty (Some part) parts (λ g. P g ⊎ IsEndedBy part g) (cond (ends_image others part) (Some part.generation) best) next.2
      (upper below) (greatest_next P best part is below) in
      greatest_same (λ g. (P g ⊎ IsEndedBy part g) ⊎ IsWholeHere parts g) (λ g. P g ⊎ IsWholeHere (part ∷ parts) g) to from
      (newest_of others best (part ∷ parts)) rest
    where
      upper : ((g : ℕ) → P g → g ≤ part.generation) → (g : ℕ) → P g ⊎ IsEndedBy part g → g ≤ part.generation
      upper below g (inl p) = below g p
      upper below g (inr e) = omega (arith, e.0)

      to : (g : ℕ) → (P g ⊎ IsEndedBy part g) ⊎ IsWholeHere parts g → P g ⊎ IsWholeHere (part ∷ parts) g
      to g (inl (inl p)) = inl p
      to g (inl (inr e)) = inr (ended_whole part parts g e)
      to g (inr h) = inr (later_whole part parts g h)

      from : (g : ℕ) → P g ⊎ IsWholeHere (part ∷ parts) g → (P g ⊎ IsEndedBy part g) ⊎ IsWholeHere parts g
      from g (inl p) = inl (inl p)
      from g (inr h) = either g (split_whole part parts g h)
        where
          either : (n : ℕ) → IsEndedBy part n ⊎ IsWholeHere parts n → (P n ⊎ IsEndedBy part n) ⊎ IsWholeHere parts n
          either n (inl e) = inl (inr e)
          either n (inr w) = inr w

-- of a first column in turn and others
greatest_first : (ty : ColumnType) (first : List Part) (others : List (List Part)) → AreInTurn ty first
    → IsGreatest (IsWholeInAll (first ∷ others)) (newest_whole (first ∷ others))
greatest_first ty first others turn =
    greatest_same (λ g. ⊥ ⊎ IsWholeHere others first g) (IsWholeInAll (first ∷ others)) to from (newest_of others None first)
    (greatest_of others ty None first (λ g. ⊥) None turn (λ g p. p) (λ g p. p))
  where
    to : (g : ℕ) → ⊥ ⊎ IsWholeHere others first g → IsWholeInAll (first ∷ others) g
    to g (inl p) = absurd p
    to g (inr h) = ap (λ b. b && list_all (is_whole g) others) h.0 ∙ h.1

    from : (g : ℕ) → IsWholeInAll (first ∷ others) g → ⊥ ⊎ IsWholeHere others first g
    from g h = inr (and_parts (is_whole g first) (list_all (is_whole g) others) h)

-- ---- columns that were read

-- columns, as they are read
abbrev read : List (List Part) → Result (List (List Part)) ReadFault
read parts = Ok parts

-- what is read in one way is one list
ok_is : (parts others : List (List Part)) → read parts ≡ read others → parts ≡ others
ok_is parts others e = cc

-- the newest generation is the greatest
pub greatest_read : WhatReadsIsAColumn → NewestIsTheGreatest
greatest_read law [] columns parts some even small e = absurd (omega (arith, some, even))
greatest_read law (ty ∷ types) [] parts some even small e = absurd (omega (arith, some))
greatest_read law (ty ∷ types) (bytes ∷ columns) parts some even small e =
    let a =
    step_ok (parts_after [] (frames_of 0 (Some ty) bytes))
    (λ first. (all_parts 1 types columns >>= λ others. Ok (first ∷ others))) parts e in
    let b = step_ok (all_parts 1 types columns) (λ others. Ok (a.0 ∷ others)) parts a.2 in
    let turn : AreInTurn ty a.0 = read_in_turn law 0 ty bytes a.0 small.0 a.1 in
    subst (λ (ps : List (List Part)). IsGreatest (IsWholeInAll ps) (newest_whole ps)) (ok_is (a.0 ∷ b.0) parts b.2)
    (greatest_first ty a.0 b.0 turn)
