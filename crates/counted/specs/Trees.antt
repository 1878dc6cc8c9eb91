-- What a tree is seen as.
use Rattle.std.specs.Prelude.{ℕ, ◌-◌, ◌*◌, ◌^◌, ◌≤◌, List}
use Rattle.model.specs.declared.entry.Entry.{Entry}
use Rattle.counted.specs.declared.node.TheConstants.{MAX_WIDTH, MIN_WIDTH}
use Rattle.counted.specs.Views.{View}

-- the entries in order, and the number of levels
pub record Tree : Type 0 where
  pub entries : List Entry
  pub depth : ℕ

-- an inner root has two children at least
abbrev pub IsRoot : View → Type 0
IsRoot v = 2 ≤ v.depth → 2 ≤ v.width

-- a tree of so many entries has so many levels: one at least; from two on, two nodes at least below the root, and
-- MIN_WIDTH below each other one; and MAX_WIDTH at most below each
pub record IsDepth (depth count : ℕ) : Type 0 where
  pub some : 1 ≤ depth
  pub many : 2 ≤ depth → 2 * MIN_WIDTH ^ (depth - 1) ≤ count
  pub most : count ≤ MAX_WIDTH ^ depth
