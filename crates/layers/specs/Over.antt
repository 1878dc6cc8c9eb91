-- Trees over tables.
use Rattle.std.specs.Prelude.{◌≡◌, ◌≤◌}
use Rattle.std.specs.Prelude.{length}
use Rattle.values.specs.Shape.{Columns, IsSchema}
use Rattle.values.specs.declared.limits.TheConstants.{MAX_ROWS}
use Rattle.model.specs.Table.{Table}
use Rattle.model.specs.Effects.{Effects, AreOver, table_with}
use Rattle.model.specs.Entries.{canonical_entries}
use Rattle.model.specs.Places.{insert_count}
use Rattle.delta.specs.Tree.{Tree}

-- the tree of effects over a table
abbrev pub tree_of : Columns → Table → Effects → Tree
tree_of schema t x = record { key_cols = schema.key_cols; entries = canonical_entries t x }

-- the tree is that of these effects over the table, and has no more inserts than a table may have rows
pub record IsTreeOf (schema : Columns) (t : Table) (x : Effects) (tree : Tree) : Type 0 where
  pub over : AreOver schema t x
  pub tree_is : tree ≡ tree_of schema t x
  pub few : insert_count tree.entries ≤ MAX_ROWS

-- a schema, and a table with no more rows than a table may have
pub record IsSmall (schema : Columns) (t : Table) : Type 0 where
  pub lawful : IsSchema schema
  pub rows : length t ≤ MAX_ROWS

-- two trees, the upper one over the image of the lower one
pub record AreConsecutive (lower upper : Tree) : Type 0 where
  pub schema : Columns
  pub t : Table
  pub x : Effects
  pub f : Effects
  pub small : IsSmall schema t
  pub below : IsTreeOf schema t x lower
  pub above : IsTreeOf schema (table_with t x) f upper

-- two trees over one image
pub record AreAligned (first second : Tree) : Type 0 where
  pub schema : Columns
  pub t : Table
  pub x : Effects
  pub y : Effects
  pub small : IsSmall schema t
  pub x_is : IsTreeOf schema t x first
  pub y_is : IsTreeOf schema t y second
