-- What a version of the table stands for.
use Rattle.std.specs.Prelude.{ℕ, List, []}
use Rattle.values.specs.Shape.{Columns}
use Rattle.values.specs.declared.row.Row.{Row}
use Rattle.model.specs.Table.{Table, table_of}
use Rattle.model.specs.Effects.{table_with}
use Rattle.model.specs.Merging.{merged_rows}
use Rattle.delta.specs.Tree.{Tree}
use Rattle.stable.specs.Stable.{Stable, table_in}
use Rattle.merge.specs.Image.{IsLayer}

pub record TableVersion : Type 0 where
  pub schema : Columns
  pub table : Table
  -- how many commits made it
  pub number : ℕ

-- a stable table under its Read- and its Write-PDT
pub record Lower : Type 0 where
  pub stable : Stable
  pub read : Tree
  pub write : Tree

-- the rows under both trees, and the table that they are
abbrev pub lower_rows : Lower → List Row
lower_rows l = merged_rows (merged_rows l.stable.rows l.read.entries) l.write.entries

abbrev pub lower_table : Lower → Table
lower_table l = table_of l.stable.schema.key_cols (lower_rows l)

-- each tree is over the table that what is below it leaves
pub record AreLower (l : Lower) : Type 0 where
  pub lower : IsLayer l.stable.schema (table_in l.stable) l.read
  pub middle : IsLayer l.stable.schema (table_with (table_in l.stable) lower.effects) l.write

-- layers, and how many commits made them
pub record LayeredVersion : Type 0 where
  pub layers : Lower
  pub number : ℕ

-- the version of these layers after so many commits
abbrev pub version_of : Lower → ℕ → TableVersion
version_of l number = record { schema = l.stable.schema; table = lower_table l; number = number }

abbrev pub numbered : Lower → ℕ → LayeredVersion
numbered l number = record { layers = l; number = number }

-- what a version says of the table
abbrev pub table_version : LayeredVersion → TableVersion
table_version v = version_of v.layers v.number

-- a stable table after so many commits
abbrev pub version_at : Stable → ℕ → TableVersion
version_at s number = record { schema = s.schema; table = table_in s; number = number }

-- a tree with no entries
abbrev pub empty_tree : ℕ → Tree
empty_tree key_cols = record { key_cols = key_cols; entries = [] }

-- a stable table under trees with no entries
abbrev pub alone : Stable → Lower
alone s = record { stable = s; read = empty_tree s.schema.key_cols; write = empty_tree s.schema.key_cols }
