-- A version that was made beside the newest one, before anything changes.
use Rattle.std.specs.Prelude.{◌≡◌}
use Rattle.txn.specs.Version.{Lower, LayeredVersion, alone, numbered, table_version}
use Rattle.manager.specs.Managed.{Managed, newest_number, newest_stable, newest_version}
use Rattle.manager.specs.Layers.{AreMerged}
use Rattle.manager.specs.Kept.{AreFolded}

-- layers, and the version over them
pub record Layered : Type 0 where
  pub layers : Lower
  pub version : LayeredVersion

-- the newest version, under layers whose Write-PDT has no entries: those are in the Read-PDT
pub record IsFolded (m : Managed) (folded : Layered) : Type 0 where
  pub lawful : AreFolded folded.layers
  pub merged : AreMerged m.layers folded.layers
  pub version_is : table_version folded.version ≡ newest_version m
  pub layers_are : folded.version ≡ numbered folded.layers (newest_number m)

-- the newest version, whose rows are the stable table, under no entries
pub record IsRebuilt (m : Managed) (rebuilt : Layered) : Type 0 where
  pub lawful : AreFolded rebuilt.layers
  pub emptied : rebuilt.layers ≡ alone (newest_stable m)
  pub version_is : table_version rebuilt.version ≡ newest_version m
  pub layers_are : rebuilt.version ≡ numbered rebuilt.layers (newest_number m)
