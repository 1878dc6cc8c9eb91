-- A checkpoint while transactions commit: what stands below the Write-PDT becomes the stable table.
use Rattle.std.specs.Prelude.{◌≡◌}
use Rattle.model.specs.Merging.{merged_rows}
use Rattle.stable.specs.Stable.{Stable}
use Rattle.txn.specs.Version.{Lower, LayeredVersion, empty_tree, lower_rows, numbered, table_version}
use Rattle.manager.specs.Managed.{Managed, newest_number, newest_version, with_layers}
use Rattle.manager.specs.Layered.{Layered}
use Rattle.manager.specs.Kept.{AreFolded}

-- the rows of a version, as a stable table
abbrev pub stable_of : LayeredVersion → Stable
stable_of v = record { schema = v.layers.stable.schema; rows = lower_rows v.layers }

-- the rows under the Read-PDT, as a stable table
abbrev pub stable_below : Lower → Stable
stable_below l = record { schema = l.stable.schema; rows = merged_rows l.stable.rows l.read.entries }

-- these rows are the stable table, the Read-PDT has no entries, and the Write-PDT is as it was
abbrev pub restacked : Lower → Lower
restacked l = record { stable = stable_below l; read = empty_tree l.stable.schema.key_cols; write = l.write }

-- the manager over such layers
abbrev pub restacked_of : Managed → Managed
restacked_of m = with_layers m (restacked m.layers)

-- the newest version, over such layers
pub record IsRestacked (m : Managed) (restack : Layered) : Type 0 where
  pub lawful : AreFolded restack.layers
  pub moved : restack.layers ≡ restacked m.layers
  pub version_is : table_version restack.version ≡ newest_version m
  pub layers_are : restack.version ≡ numbered restack.layers (newest_number m)
