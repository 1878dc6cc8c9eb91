-- Texts of a block: all of them spelled out, or one with copies, which are only counted.
use Rattle.std.specs.Prelude.{◌≡◌, ◌<◌, ◌≤◌, ◌+◌, ◌++◌, ℕ, List, [], length, replicate, slice_index_or}
use Rattle.std.specs.List.{AllByRecursion}
use Rattle.values.specs.declared.limits.TheConstants.{MAX_BLOCK_VALUES}
use Rattle.blocks.specs.Cuts.{IsText}

-- the texts with so many copies of the first one behind them
abbrev pub texts_of : List (List ℕ) → ℕ → List (List ℕ)
texts_of given copies = given ++ replicate copies (slice_index_or given 0 [])

-- a text with copies is alone
pub record AreTexts (given : List (List ℕ)) (copies : ℕ) : Type 0 where
  pub few : length given + copies ≤ MAX_BLOCK_VALUES
  pub one : 0 < copies → length given ≡ 1
  pub texts : AllByRecursion IsText given
