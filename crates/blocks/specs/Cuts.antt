-- Texts in one buffer: where each ends, and what lies between the ends.
use Rattle.std.specs.Prelude.{◌≡◌, ℕ, ◌+◌, ◌-◌, ◌≤◌, List, [], ◌∷◌, length, take, drop, IsUtf8}
use Rattle.std.specs.List.{flat_map, AllByRecursion}
use Rattle.values.specs.declared.limits.TheConstants.{MAX_TEXT_BYTES, MAX_BLOCK_VALUES}

-- the texts, one after the other
abbrev pub joined : List (List ℕ) → List ℕ
joined ts = flat_map (λ t. t) ts

-- where each of the texts ends, the first of them beginning at `start`
abbrev pub ends_of : ℕ → List (List ℕ) → List ℕ
ends_of start [] = []
ends_of start (t ∷ ts) = (start + length t) ∷ ends_of (start + length t) ts

-- the texts between the ends, the first of them beginning at `start`
abbrev pub cut : ℕ → List ℕ → List ℕ → List (List ℕ)
cut start [] bytes = []
cut start (end ∷ ends) bytes = take (end - start) (drop start bytes) ∷ cut end ends bytes

-- whether bytes are a text of at most 4,096 bytes
pub record IsText (t : List ℕ) : Type 0 where
  pub utf8 : IsUtf8 t
  pub short : length t ≤ MAX_TEXT_BYTES

-- whether the texts between the ends are the whole buffer, end where they say, and are texts of a block
pub record IsCut (ends bytes : List ℕ) : Type 0 where
  pub whole : bytes ≡ joined (cut 0 ends bytes)
  pub ended : ends ≡ ends_of 0 (cut 0 ends bytes)
  pub texts : AllByRecursion IsText (cut 0 ends bytes)
  pub few : length ends ≤ MAX_BLOCK_VALUES
