-- The first clash of two lists of entries is one, and the least.
use Rattle.std.proofs.Common.{◌≡◌, ◌⊎◌, inl, inr, ℕ, zero, suc, ◌+◌, ◌<◌, ◌≤◌, Option, Some, None, List, [], ◌∷◌, refl, ap, subst, arith, rules}
use Rattle.std.specs.Prelude.{slice_get, IfSome, IsNone}
use Rattle.model.specs.declared.entry.Entry.{Entry}
use Rattle.model.specs.declared.clash.ClashKind.{ClashKind}
use Rattle.model.specs.declared.clash.Clash.{Clash}
use Rattle.model.specs.declared.clash.ConflictRule.{ConflictRule}
use Rattle.model.specs.Rebasing.{clash_of_entries, or_clash, clash_with, first_clash_from, first_clash, AreClashing, IsLeastClash}
use Rattle.model.specs.Laws.{FirstClashIsLeast}
use Rattle.std.proofs.lemmas.Grind.{common_steps}

module _ (rule : ConflictRule) (key_cols : ℕ) where
  -- ---- one entry against the others

  -- the first clash of the entry at place i with those from place j on
  record IsFirstWith (i : ℕ) (x : Entry) (j : ℕ) (ys : List Entry) (clash : Clash) : Type 0 where
    pub x_is : clash.x ≡ i
    pub place : ℕ
    pub y_is : clash.y ≡ j + place
    pub y : Entry
    pub y_at : slice_get ys place ≡ Some y
    pub kind_is : clash_of_entries rule key_cols x y ≡ Some clash.kind
    pub least : (k : ℕ) (z : Entry) (kind : ClashKind) → slice_get ys k ≡ Some z → clash_of_entries rule key_cols x z ≡ Some kind →
        place ≤ k

  -- what a search of the others finds: no entry that clashes, or the first that does
  abbrev IsFoundWith : ℕ → Entry → ℕ → List Entry → Option Clash → Type 0
  IsFoundWith i x j ys None =
      (k : ℕ) (z : Entry) (kind : ClashKind) → slice_get ys k ≡ Some z → clash_of_entries rule key_cols x z ≡ Some kind → ⊥
  IsFoundWith i x j ys (Some clash) = IsFirstWith i x j ys clash

  -- the first entry doesn't clash with one that clashes
  other_entry : (x y z : Entry) (kind : ClashKind) → clash_of_entries rule key_cols x y ≡ None → ◌≡◌ {A = Option Entry} (Some y) (Some z) →
      clash_of_entries rule key_cols x z ≡ Some kind → ⊥
  other_entry x y z kind free same is = cc

  -- past an entry that doesn't clash
  later_with : (i : ℕ) (x : Entry) (j : ℕ) (y : Entry) (ys : List Entry) (found : Option Clash) → IsFoundWith i x (suc j) ys found →
      clash_of_entries rule key_cols x y ≡ None → IsFoundWith i x j (y ∷ ys) found
  later_with i x j y ys None none free = search rules
  later_with i x j y ys (Some clash) h free = record {
    x_is = h.x_is;
    place = suc h.place;
    y_is = omega (arith, h.y_is);
    y = h.y;
    y_at = h.y_at;
    kind_is = h.kind_is;
    least = λ k z kind at is. by_place k z kind at is;
  }
    where
      -- the entry at place 0 is none of those that clash
      by_place : (k : ℕ) (z : Entry) (kind : ClashKind) → slice_get (y ∷ ys) k ≡ Some z → clash_of_entries rule key_cols x z ≡ Some kind →
          suc h.place ≤ k
      by_place zero z kind at is = absurd (other_entry x y z kind free at is)
      by_place (suc k) z kind at is = omega (arith, h.least k z kind at is)

  -- the search of the others finds the first that clashes
  first_with : (i : ℕ) (x : Entry) (j : ℕ) (ys : List Entry) → IsFoundWith i x j ys (clash_with rule key_cols i x j ys)
  first_with i x j [] = λ k z kind at is. cc
  first_with i x j (y ∷ ys) =
      elim (clash_of_entries rule key_cols x y) as (λ o. clash_of_entries rule key_cols x y ≡ o
      → IsFoundWith i x j (y ∷ ys) (or_clash i j o (clash_with rule key_cols i x (suc j) ys))) [
        | None ↦ λ free. later_with i x j y ys (clash_with rule key_cols i x (suc j) ys) (first_with i x (suc j) ys) free
        | Some kind ↦ λ is. record {
          x_is = refl;
          place = zero;
          y_is = omega arith;
          y = y;
          y_at = refl;
          kind_is = is;
          least = λ k z other at found. omega arith;
        }
      ] refl

  -- ---- all entries

  -- the first clash of the entries from place i on
  record IsFirstFrom (i : ℕ) (xs ys : List Entry) (clash : Clash) : Type 0 where
    pub place : ℕ
    pub x_is : clash.x ≡ i + place
    pub clashing : AreClashing rule key_cols xs ys place clash.y clash.kind
    pub least : (k j : ℕ) (kind : ClashKind) → AreClashing rule key_cols xs ys k j kind → (place < k) ⊎ ((place ≡ k) × (clash.y ≤ j))

  -- what a search of all entries finds: no clash, or the first one
  abbrev IsFoundFrom : ℕ → List Entry → List Entry → Option Clash → Type 0
  IsFoundFrom i xs ys None = (k j : ℕ) (kind : ClashKind) → AreClashing rule key_cols xs ys k j kind → ⊥
  IsFoundFrom i xs ys (Some clash) = IsFirstFrom i xs ys clash

  -- what clashes with the entry at place 0
  head_clash : (x : Entry) (xs ys : List Entry) (j : ℕ) (kind : ClashKind) (h : AreClashing rule key_cols (x ∷ xs) ys zero j kind) →
      clash_of_entries rule key_cols x h.y ≡ Some kind
  head_clash x xs ys j kind h = search rules

  -- what clashes with a later entry
  tail_clash : (x : Entry) (xs ys : List Entry) (k j : ℕ) (kind : ClashKind) → AreClashing rule key_cols (x ∷ xs) ys (suc k) j kind →
      AreClashing rule key_cols xs ys k j kind
  tail_clash x xs ys k j kind h = record { x = h.x; y = h.y; x_at = h.x_at; y_at = h.y_at; kind_is = h.kind_is }

  -- places one further on compare alike
  past : (place k y j : ℕ) → (place < k) ⊎ ((place ≡ k) × (y ≤ j)) → (suc place < suc k) ⊎ ((suc place ≡ suc k) × (y ≤ j))
  past place k y j (inl h) = inl (omega arith)
  past place k y j (inr h) = inr (ap suc h.0, h.1)

  -- past an entry that clashes with none of the others
  later_from : (i : ℕ) (x : Entry) (xs ys : List Entry) (found : Option Clash) → IsFoundFrom (suc i) xs ys found
      → IsFoundWith i x zero ys None → IsFoundFrom i (x ∷ xs) ys found
  later_from i x xs ys None none free = λ k j kind h. by_place k j kind h
    where
      -- by the place of what clashes
      by_place : (k j : ℕ) (kind : ClashKind) → AreClashing rule key_cols (x ∷ xs) ys k j kind → ⊥
      by_place zero j kind h = free j h.y kind h.y_at (head_clash x xs ys j kind h)
      by_place (suc k) j kind h = none k j kind (tail_clash x xs ys k j kind h)
  later_from i x xs ys (Some clash) first free = record {
    place = suc first.place;
    x_is = omega (arith, first.x_is);
    clashing =
        record {
          x = first.clashing.x;
          y = first.clashing.y;
          x_at = first.clashing.x_at;
          y_at = first.clashing.y_at;
          kind_is = first.clashing.kind_is;
        };
    least = λ k j kind h. by_place k j kind h;
  }
    where
      -- the entry at place 0 is none of those that clash
      by_place : (k j : ℕ) (kind : ClashKind) → AreClashing rule key_cols (x ∷ xs) ys k j kind → (suc first.place < k)
          ⊎ ((suc first.place ≡ k) × (clash.y ≤ j))
      by_place zero j kind h = absurd (free j h.y kind h.y_at (head_clash x xs ys j kind h))
      by_place (suc k) j kind h = past first.place k clash.y j (first.least k j kind (tail_clash x xs ys k j kind h))

  -- the first clash of the entry at place i is the first of all
  here_from : (i : ℕ) (x : Entry) (xs ys : List Entry) (clash : Clash) → IsFirstWith i x zero ys clash → IsFirstFrom i (x ∷ xs) ys clash
  here_from i x xs ys clash first = search rules

  -- the search of all entries finds the first clash
  first_from : (i : ℕ) (xs ys : List Entry) → IsFoundFrom i xs ys (first_clash_from rule key_cols i xs ys)
  first_from i [] ys = λ k j kind h. let at = h.x_at in cc
  first_from i (x ∷ xs) ys = grind (arith, common_steps, first_from (suc i) xs ys, first_with, later_from, here_from)

-- the first clash is one, and the least
pub first_clash-least : (key_cols : ℕ) → FirstClashIsLeast key_cols
first_clash-least key_cols rule xs ys = record {
  least = least_of (first_clash rule key_cols xs ys) (first_from rule key_cols zero xs ys);
  none = none_of (first_clash rule key_cols xs ys) (first_from rule key_cols zero xs ys);
}
  where
    -- a clash that is found is the least
    least_of : (found : Option Clash) → IsFoundFrom rule key_cols zero xs ys found → IfSome found (IsLeastClash rule key_cols xs ys)
    least_of None h = tt
    least_of (Some clash) h =
        let same : h.place ≡ clash.x = omega (arith, h.x_is) in
        record {
          clashing = subst (λ k. AreClashing rule key_cols xs ys k clash.y clash.kind) same h.clashing;
          least = λ i j kind other. subst (λ k. (k < i) ⊎ ((k ≡ i) × (clash.y ≤ j))) same (h.least i j kind other);
        }

    -- where none is found there is none
    none_of : (found : Option Clash) → IsFoundFrom rule key_cols zero xs ys found → IsNone found → (i j : ℕ) (kind : ClashKind) →
        ¬ AreClashing rule key_cols xs ys i j kind
    none_of None h none = h
    none_of (Some clash) h none = cc
