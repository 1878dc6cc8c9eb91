-- The shape of a node.
use Rattle.std.specs.Prelude.{◌≡◌, ℕ, suc, ◌^◌, ◌≤◌, Some, List, [], ◌∷◌, length, slice_get}
use Rattle.std.specs.List.{All, flat_map}
use Rattle.model.specs.declared.entry.Entry.{Entry}
use Rattle.counted.specs.declared.node.TheConstants.{MAX_WIDTH, MIN_WIDTH}
use Rattle.counted.specs.declared.node.Body.{Body}
use Rattle.counted.specs.declared.node.Body.TheVariants.{Leaf, Inner}
use Rattle.counted.specs.declared.node.Child.{Child}
use Rattle.counted.specs.Leads.{lead_of}
use Rattle.counted.specs.Sums.{total}
use Rattle.counted.specs.Views.{View}

abbrev pub items_of : Child → List Entry
items_of c = c.node.value.items

-- the entries below the children
abbrev pub all_items : List Child → List Entry
all_items children = flat_map items_of children

-- the first child's number of levels
abbrev pub depth_of : List Child → ℕ
depth_of [] = 0
depth_of (c ∷ children) = c.node.value.depth

abbrev pub view_of : Body → View
view_of (Leaf entries) = record { depth = 1; width = length entries.items; items = entries.items }
view_of (Inner children) = record { depth = suc (depth_of children.items); width = length children.items; items = all_items children.items }

-- a child stands at this depth, is at least half full, holds as many entries as nodes of such widths do on so many levels, and
-- its counts are those of its entries
pub record IsChild (depth : ℕ) (c : Child) : Type 0 where
  pub level : c.node.value.depth ≡ depth
  pub full : MIN_WIDTH ≤ c.node.value.width
  pub deep : 1 ≤ depth
  pub many : MIN_WIDTH ^ depth ≤ length c.node.value.items
  pub most : length c.node.value.items ≤ MAX_WIDTH ^ depth
  pub count : c.count ≡ length c.node.value.items
  pub net : c.net ≡ total c.node.value.items
  pub lead : (e : Entry) → slice_get c.node.value.items 0 ≡ Some e → c.lead ≡ lead_of e

-- all children stand at one depth
pub record AreChildren (children : List Child) : Type 0 where
  pub some : 1 ≤ length children
  pub room : length children ≤ MAX_WIDTH
  pub each : All (IsChild (depth_of children)) children

abbrev pub IsBalanced : Body → Type 0
IsBalanced (Leaf entries) = length entries.items ≤ MAX_WIDTH
IsBalanced (Inner children) = AreChildren children.items
