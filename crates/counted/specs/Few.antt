-- How many entries there may be: each bound has room for what is done with so many, and both are far above what fits in memory.
use Rattle.std.specs.Prelude.{ℕ, ◌<◌, ◌^◌}

-- as many as a tree may have: it has 21 levels at most, and what is as far away as they move it is at a place of 63 bits
abbrev pub IsFew : ℕ → Type 0
IsFew n = n < 2 ^ 61

-- as many as may be counted together, of nodes that an edit takes and makes: what they add fits 64 bits
abbrev pub IsCountable : ℕ → Type 0
IsCountable n = n < 2 ^ 62
