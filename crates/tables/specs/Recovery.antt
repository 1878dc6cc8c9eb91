-- What is recovered of a table of a database.
use Rattle.std.specs.Prelude.{ℕ, Option, List}
use Rattle.values.specs.Shape.{Columns}
use Rattle.values.specs.declared.row.Row.{Row}
use Rattle.databases.specs.Restored.{AreRestored, Files}
use Rattle.databases.specs.Restored.{IsLost as IsUnrestored}
use Rattle.databases.specs.declared.fault.RestoreFault.{RestoreFault}
use Rattle.databases.specs.declared.fault.RestoreFault.TheVariants as restore
use Rattle.devices.specs.declared.fault.StoreFault.TheVariants as store_fault
use Rattle.manifest.specs.Manifest.{Table as Entry}
use Rattle.manifest.specs.declared.entries.ManifestHead.{ManifestHead}
use Rattle.pdtcli.specs.declared.refusal.Refusal.{Refusal}
use Rattle.pdtcli.specs.declared.refusal.Refusal.TheVariants as refusal
use Rattle.tables.specs.Meant.{IsMeant, IsUnmeant}

-- the rows are restored of the files of the table that is meant
pub record IsRecovered (text : List ℕ) (name : Option (List ℕ)) (files : Files) (schema : Columns) (rows : List Row) : Type 0 where
  pub head : ManifestHead
  pub entry : Entry
  pub meant : IsMeant text name head entry
  pub restored : AreRestored head entry files schema rows

-- the refusal of a table that isn't restored
abbrev pub refusal_of : RestoreFault → Refusal
refusal_of restore.OtherStore = refusal.OtherStore
refusal_of restore.BadManifest = refusal.BadManifest
refusal_of restore.DamagedHeader = refusal.DamagedHeader
refusal_of (restore.DamagedColumn col) = refusal.DamagedColumn col
refusal_of (restore.Header fault) = refusal.Header fault
refusal_of (restore.Columns fault) = refusal.Columns fault
refusal_of (restore.Commits fault) = refusal.Commits fault
refusal_of restore.NoMemory = refusal.Store store_fault.NoMemory

-- the table that is meant isn't restored, for this fault
abbrev pub IsRefused : List ℕ → Option (List ℕ) → Files → RestoreFault → Type 0
IsRefused text name files fault = (head : ManifestHead) × (t : Entry) × IsMeant text name head t × IsUnrestored head t files fault

-- why no table is shown
abbrev pub IsLost : List ℕ → Option (List ℕ) → Files → Refusal → Type 0
IsLost text name files refusal.OtherStore = IsRefused text name files restore.OtherStore
IsLost text name files refusal.BadManifest = IsRefused text name files restore.BadManifest
IsLost text name files refusal.DamagedHeader = IsRefused text name files restore.DamagedHeader
IsLost text name files (refusal.DamagedColumn col) = IsRefused text name files (restore.DamagedColumn col)
IsLost text name files (refusal.Header fault) = IsRefused text name files (restore.Header fault)
IsLost text name files (refusal.Columns fault) = IsRefused text name files (restore.Columns fault)
IsLost text name files (refusal.Commits fault) = IsRefused text name files (restore.Commits fault)
IsLost text name files (refusal.Output fault) = (schema : Columns) × (rows : List Row) × IsRecovered text name files schema rows
IsLost text name files other = IsUnmeant text name other
