-- A tree made consecutive to the trees of commits, one after another.
use Rattle.std.specs.Prelude.{◌≡◌, ℕ, ◌≤◌, true, false, Option, Some, None, List, length, take}
use Rattle.std.specs.List.{list_any}
use Rattle.values.specs.Shape.{Columns, IsSchema}
use Rattle.values.specs.declared.limits.TheConstants.{MAX_ROWS}
use Rattle.model.specs.declared.clash.ConflictRule.{ConflictRule}
use Rattle.model.specs.Table.{Table}
use Rattle.model.specs.Effects.{Effects, AreOver}
use Rattle.model.specs.Clashes.{conflicts}
use Rattle.model.specs.Places.{insert_count}
use Rattle.model.specs.History.{table_with_all}
use Rattle.model.specs.Laws.{AreCommits}
use Rattle.delta.specs.Tree.{Tree}
use Rattle.layers.specs.Over.{tree_of}
use Rattle.manager.specs.Kept.{commit_trees}

module _ (rule : ConflictRule) (kept : List Tree) (tree : Tree) where
  -- the tree is that of effects over a table, and the kept ones are those of commits from that table on
  pub record MayPass : Type 0 where
    pub schema : Columns
    pub now : Table
    pub x : Effects
    pub rest : List Effects
    pub lawful : IsSchema schema
    pub over : AreOver schema now x
    pub tree_is : tree ≡ tree_of schema now x
    pub few : insert_count tree.entries ≤ MAX_ROWS
    pub kept_are : kept ≡ commit_trees schema now rest
    pub commits : AreCommits schema now rest
    pub within : (k : ℕ) → length (table_with_all now (take k rest)) ≤ MAX_ROWS

  -- the tree of the effects over the table after all commits, or none where they conflict with one
  abbrev pub IsThrough : MayPass → Option Tree → Type 0
  IsThrough w None = list_any (conflicts rule w.x) w.rest ≡ true
  IsThrough w (Some passed) =
      (list_any (conflicts rule w.x) w.rest ≡ false) × (passed ≡ tree_of w.schema (table_with_all w.now w.rest) w.x)
