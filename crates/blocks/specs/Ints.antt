-- Numbers of a block: zeros, which are only counted, or numbers that are spelled out.
use Rattle.std.specs.Prelude.{◌≡◌, ◌<◌, ◌≤◌, ◌+◌, ◌++◌, ℕ, ℤ, Bool, pos, List, [], length, replicate}
use Rattle.std.specs.Ordering.{int_eq}
use Rattle.values.specs.declared.limits.TheConstants.{MAX_BLOCK_VALUES}

-- so many zeros
abbrev pub zeros_of : ℕ → List ℤ
zeros_of n = replicate n (pos 0)

-- the numbers, of which one part has none
abbrev pub numbers_of : ℕ → List ℤ → List ℤ
numbers_of zeros given = zeros_of zeros ++ given

pub record AreInts (zeros : ℕ) (given : List ℤ) : Type 0 where
  pub few : zeros + length given ≤ MAX_BLOCK_VALUES
  pub one : 0 < zeros → given ≡ []

abbrev pub is_zero : ℤ → Bool
is_zero n = int_eq n (pos 0)
