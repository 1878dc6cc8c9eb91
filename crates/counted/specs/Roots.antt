-- The root of a tree.
use Rattle.std.specs.Prelude.{◌≡◌, ℕ, ℤ, [], length, Option, Some, None}
use Rattle.std.proofs.Common.{Global}
use Rattle.std.specs.declared.sync.Arc.{Arc}
use Rattle.counted.specs.declared.node.Node.{Node}
use Rattle.counted.specs.Few.{IsFew}
use Rattle.counted.specs.Sums.{total}
use Rattle.counted.specs.Trees.{Tree, IsRoot}

abbrev pub view_of_root : Option (Arc Node Global) → Tree
view_of_root None = record { entries = []; depth = 1 }
view_of_root (Some root) = record { entries = root.value.items; depth = root.value.depth }

abbrev pub IsShaped : Option (Arc Node Global) → Type 0
IsShaped None = Unit {0}
IsShaped (Some root) = IsRoot root.value

-- the root's shape, and the sums that the tree keeps
pub record IsTree (root : Option (Arc Node Global)) (len : ℕ) (net : ℤ) : Type 0 where
  pub shape : IsShaped root
  pub count : len ≡ length (view_of_root root).entries
  pub sum : net ≡ total (view_of_root root).entries
  pub few : IsFew len
