-- What a manager holds beside its history: the layers of the newest table, and the trees of the last commits.
use Rattle.std.specs.Prelude.{◌≡◌, ℕ, suc, ◌-◌, ◌≤◌, ◌&&◌, nat_le, nat_lt, Bool, cond, Option, None, List, [], ◌∷◌, length, slice_get, drop}
use Rattle.circular_buffer.specs.Buffer.{keep_last}
use Rattle.values.specs.Shape.{Columns}
use Rattle.values.specs.declared.limits.TheConstants.{MAX_ROWS}
use Rattle.values.specs.declared.row.Row.{Row}
use Rattle.model.specs.Table.{Table, rows_of}
use Rattle.model.specs.Effects.{Effects, table_with}
use Rattle.model.specs.History.{table_after}
use Rattle.delta.specs.Tree.{Tree}
use Rattle.layers.specs.Over.{tree_of}
use Rattle.stable.specs.Stable.{table_in}
use Rattle.txn.specs.Version.{Lower, AreLower, LayeredVersion, numbered, table_version}
use Rattle.manager.specs.Managed.{Managed, IsManaged, commits_in, newest_number, newest_version}

-- the tree of each commit, over the table that it found
abbrev pub commit_trees : Columns → Table → List Effects → List Tree
commit_trees schema t [] = []
commit_trees schema t (x ∷ commits) = tree_of schema t x ∷ commit_trees schema (table_with t x) commits

-- the trees of the last commits above the floor, as many as a transaction may come after
abbrev pub kept_trees : Managed → List Tree
kept_trees m = keep_last m.start.recent (drop (m.floor - m.start.base) (commit_trees m.schema m.start.table (commits_in m)))

-- whether a number is that of one of the last commits above the floor
abbrev pub is_kept : Managed → ℕ → Bool
is_kept m number =
    nat_lt m.floor number && (nat_le number (newest_number m) && nat_lt (newest_number m - number) m.start.recent)

-- the tree of the commit that made the table of a number, where it is kept
abbrev pub kept_tree : Managed → ℕ → Option Tree
kept_tree m number =
    cond (is_kept m number) (slice_get (commit_trees m.schema m.start.table (commits_in m)) (number - suc m.start.base)) None

-- the rows of the table of a number, from the base on
abbrev pub rows_at : Managed → ℕ → List Row
rows_at m number = rows_of (table_after m.start (commits_in m) number)

-- layers whose table under the Read-PDT is one that was the newest
pub record AreFolded (l : Lower) : Type 0 where
  pub lower : AreLower l
  pub stable_few : length l.stable.rows ≤ MAX_ROWS
  pub few : length (table_with (table_in l.stable) lower.lower.effects) ≤ MAX_ROWS

pub record HoldsNewest (m : Managed) (l : Lower) (newest : LayeredVersion) (kept : List Tree) : Type 0 where
  pub lawful : IsManaged m
  pub folded : AreFolded l
  pub newest_is : table_version newest ≡ newest_version m
  pub layers_are : newest ≡ numbered l (newest_number m)
  pub kept_are : kept ≡ kept_trees m
