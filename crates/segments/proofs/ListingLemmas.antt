-- Names in a folder, taken one after the other, as loops do.
use Rattle.std.proofs.Common.{◌≡◌, ◌∙◌, ap, sym, subst, arith, ◌<◌, ◌≤◌, ◌^◌, ◌⊎◌, inl, inr, ℕ, zero, suc, ◌+◌}
use Rattle.std.proofs.Common.{Option, Some, None, List, [], ◌∷◌, length, map, get_or, drop}
use Rattle.std.specs.Borrow.{Bor}
use Rattle.std.specs.Option.{IfSome, IsSomeAnd}
use Rattle.std.proofs.lemmas.Fmt.{decimal_injective}
use Rattle.std.proofs.lemmas.List.{at_drop_more, drop_all}
use Rattle.segments.specs.Listing.{HasFile, IsGreatest, journal_name}

abbrev texts : List (Bor (List ℕ)) → List (List ℕ)
texts names = map (λ n. n.now) names

-- the name at a place is one of them
pub here : (names : List (Bor (List ℕ))) (i : ℕ) (d : Bor (List ℕ)) (n : ℕ) → i < length names → (get_or names i d).now ≡ journal_name n
    → HasFile (texts names) n
unfolding HasFile
here [] i d n lt is = absurd (omega (arith, lt))
here (name ∷ names) zero d n lt is = inl is
here (name ∷ names) (suc i) d n lt is = inr (here names i d n (omega (arith, lt)) is)

-- one of those from a place on stands there, or behind it
pub next : (names : List (Bor (List ℕ))) (i : ℕ) (d : Bor (List ℕ)) (n : ℕ) → i < length names → HasFile (texts (drop i names)) n
    → ((get_or names i d).now ≡ journal_name n) ⊎ HasFile (texts (drop (i + 1) names)) n
unfolding HasFile
next names i d n lt has = subst (λ ns. HasFile (texts ns) n) (at_drop_more (λ ns. ns) names i d lt) has

pub none_left : (names : List (Bor (List ℕ))) (i n : ℕ) → length names ≤ i → HasFile (texts (drop i names)) n → ⊥
unfolding HasFile
none_left names i n le has = subst (λ ns. HasFile (texts ns) n) (drop_all i names le) has

-- a name is that of one number
pub same_number : (m n : ℕ) → m < 2 ^ 64 → n < 2 ^ 64 → journal_name m ≡ journal_name n → m ≡ n
same_number m n lm ln e = decimal_injective m n lm ln (ap (drop 8) e)

-- what was found isn't less than a number
abbrev IsAbove : Option ℕ → ℕ → Type 0
IsAbove found n = IsSomeAnd found (λ m. n ≤ m)

-- and neither is what isn't less than that
pub above_more : (found : Option ℕ) (n g : ℕ) → IfSome found (λ m. m ≤ g) → IsAbove found n → n ≤ g
above_more (Some m) n g most above = omega (arith, most, above)
above_more None n g most above = absurd above

-- a name more: that of a number, or none
module _ (names : List (Bor (List ℕ))) (i : ℕ) (d : Bor (List ℕ)) (lt : i < length names) (found : Option ℕ)
    (so_far : (n : ℕ) → n < 2 ^ 64 → HasFile (texts names) n → IsAbove found n ⊎ HasFile (texts (drop i names)) n) where
  pub with_number : (number g : ℕ) → (get_or names i d).now ≡ journal_name number → number ≤ g → g < 2 ^ 64 → IfSome found (λ m. m ≤ g)
      → (n : ℕ) → n < 2 ^ 64 → HasFile (texts names) n → (n ≤ g) ⊎ HasFile (texts (drop (i + 1) names)) n
  with_number number g is above fits most n small has =
      elim (so_far n small has) [
        | inl a ↦ inl (above_more found n g most a)
        | inr left ↦
            elim (next names i d n lt left) [
              | inl e ↦ inl (omega (arith, above, same_number number n (omega (arith, above, fits)) small (sym is ∙ e)))
              | inr more ↦ inr more
            ]
      ]

  pub without_number : ((n : ℕ) → n < 2 ^ 64 → (get_or names i d).now ≡ journal_name n → ⊥)
      → (n : ℕ) → n < 2 ^ 64 → HasFile (texts names) n → IsAbove found n ⊎ HasFile (texts (drop (i + 1) names)) n
  without_number other n small has =
      elim (so_far n small has) [
        | inl a ↦ inl a
        | inr left ↦
            elim (next names i d n lt left) [
              | inl e ↦ absurd (other n small e)
              | inr more ↦ inr more
            ]
      ]

-- at the end nothing is left
pub all_above : (names : List (Bor (List ℕ))) (i : ℕ) (found : Option ℕ) → length names ≤ i
    → ((n : ℕ) → n < 2 ^ 64 → HasFile (texts names) n → IsAbove found n ⊎ HasFile (texts (drop i names)) n)
    → (n : ℕ) → n < 2 ^ 64 → HasFile (texts names) n → IsAbove found n
all_above names i found le so_far n small has =
    elim (so_far n small has) [
      | inl above ↦ above
      | inr left ↦ absurd (none_left names i n le left)
    ]

-- the greatest of them is what was found
pub greatest_is : (names : List (List ℕ)) (found : Option ℕ) → IfSome found (HasFile names)
    → ((n : ℕ) → n < 2 ^ 64 → HasFile names n → IsAbove found n) → IfSome found (IsGreatest names)
greatest_is names (Some m) there above =
    record { there = there; no_more = λ n lt small has. absurd (omega (arith, lt, above n small has)) }
greatest_is names None there above = tt
