-- How many nodes a search reads.
use Rattle.std.specs.Prelude.{◌≡◌, ℕ, ◌+◌}
use Rattle.counted.specs.Trees.{IsDepth}

-- a count of nodes read grows by the number of levels of a tree of so many entries
abbrev pub CountsEachLevel : ℕ → ℕ → ℕ → Type 0
CountsEachLevel count before after = (depth : ℕ) × (after ≡ before + depth) × IsDepth depth count
