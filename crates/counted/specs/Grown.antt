-- What a node grows to.
use Rattle.std.specs.Prelude.{◌≡◌, ℕ, ◌≤◌, min, ◌^◌, List, ◌++◌, length}
use Rattle.model.specs.declared.entry.Entry.{Entry}
use Rattle.counted.specs.declared.node.TheConstants.{MAX_WIDTH, MIN_WIDTH}
use Rattle.counted.specs.declared.node.grown.Grown.{Grown}
use Rattle.counted.specs.declared.node.grown.Grown.TheVariants.{One, Two}
use Rattle.counted.specs.declared.node.Child.{Child}
use Rattle.counted.specs.declared.node.grown.Counts.{Counts}
use Rattle.counted.specs.Sums.{total}
use Rattle.counted.specs.Views.{View}

abbrev pub grown_items : Grown → List Entry
grown_items (One node) = node.items
grown_items (Two left right) = left.items ++ right.items

-- the least width of a node
abbrev pub grown_width : Grown → ℕ
grown_width (One node) = node.width
grown_width (Two left right) = min left.width right.width

-- each node has this depth
abbrev pub AreGrown : ℕ → Grown → Type 0
AreGrown depth (One node) = node.depth ≡ depth
AreGrown depth (Two left right) = (left.depth ≡ depth) × (right.depth ≡ depth)

-- one node at least as wide, or two that are at least half full, of this depth and with these entries
abbrev pub IsGrown : ℕ → ℕ → List Entry → Grown → Type 0
IsGrown depth width items (One node) = (node.depth ≡ depth) × (width ≤ node.width) × (node.items ≡ items)
IsGrown depth width items (Two left right) =
    (left.depth ≡ depth) × (right.depth ≡ depth) × (MIN_WIDTH ≤ left.width) × (MIN_WIDTH ≤ right.width) × (left.items ++ right.items ≡ items)

-- the same counts and the same node
pub record IsSameChild (c x : Child) : Type 0 where
  pub count : x.count ≡ c.count
  pub net : x.net ≡ c.net
  pub lead : x.lead ≡ c.lead
  pub node : x.node.value ≡ c.node.value

-- the counts are those of the node's entries
pub record AreCounts (node : View) (counts : Counts) : Type 0 where
  pub count : counts.count ≡ length node.items
  pub net : counts.net ≡ total node.items

-- a node holds as many entries as nodes of such widths do on so many levels
pub record IsSized (node : View) : Type 0 where
  pub many : MIN_WIDTH ^ node.depth ≤ length node.items
  pub most : length node.items ≤ MAX_WIDTH ^ node.depth
  pub deep : 1 ≤ node.depth
