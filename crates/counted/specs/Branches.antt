-- The way down to a leaf, and what lies around it.
use Rattle.std.specs.Prelude.{◌≡◌, ℕ, ◌+◌, ◌-◌, ◌<◌, ◌≤◌, List, [], ◌∷◌, ◌++◌, length, take, drop}
use Rattle.model.specs.declared.entry.Entry.{Entry}
use Rattle.counted.specs.declared.node.TheConstants.{MAX_WIDTH, MIN_WIDTH}
use Rattle.counted.specs.declared.node.path.Path.{Path}
use Rattle.counted.specs.declared.node.path.Branch.{Branch}
use Rattle.counted.specs.Few.{IsFew}
use Rattle.counted.specs.Shapes.{AreChildren, all_items, depth_of}
use Rattle.counted.specs.Views.{View}

-- the entries before what the branches lead to, and those behind it
abbrev pub before : List Branch → List Entry
before [] = []
before (s ∷ branches) = all_items (take s.index s.children.now) ++ before branches

abbrev pub behind : List Branch → List Entry
behind [] = []
behind (s ∷ branches) = behind branches ++ all_items (drop (s.index + 1) s.children.now)

-- all entries, where the branches lead to these
abbrev pub around : List Branch → List Entry → List Entry
around branches inner = before branches ++ (inner ++ behind branches)

-- a branch from a node at least so wide to one of its children, each of which has so many levels
pub record IsBranch (depth least : ℕ) (s : Branch) : Type 0 where
  pub children : AreChildren s.children.now
  pub index : s.index < length s.children.now
  pub level : depth_of s.children.now ≡ depth
  pub wide : least ≤ length s.children.now
  pub few : IsFew (length (all_items s.children.now))

-- branches, one a level, from a node at least so wide, and then from nodes that are at least half full, to one of so many levels
abbrev pub AreBranches : ℕ → ℕ → List Branch → Type 0
AreBranches depth least [] = Unit {0}
AreBranches depth least (s ∷ branches) = IsBranch (depth + length branches) least s × AreBranches depth MIN_WIDTH branches

-- how wide a node has to stay that the branches lead to: any width serves at the root
abbrev pub least_width : List Branch → ℕ
least_width [] = 0
least_width (s ∷ branches) = MIN_WIDTH - 1

-- the way from a node down to the leaf in which so many of its entries end
pub record IsPath (v : View) (end : ℕ) (path : Path) : Type 0 where
  pub branches : AreBranches 1 2 path.branches.items
  pub full : 1 ≤ length path.branches.items → MIN_WIDTH ≤ length path.leaf.now
  pub room : length path.leaf.now ≤ MAX_WIDTH
  pub within : path.end ≤ length path.leaf.now
  pub index : path.end + length (before path.branches.items) ≡ end
  pub some : 1 ≤ end → 1 ≤ path.end
  pub items : around path.branches.items path.leaf.now ≡ v.items
