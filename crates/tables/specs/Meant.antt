-- The table that is meant of a database, and the files that it wants.
use Rattle.std.specs.Prelude.{◌≡◌, ◌<◌, ℕ, Option, Ok, Err, List, length, slice_index_or}
use Rattle.devices.specs.declared.fault.StoreFault.TheVariants as store_fault
use Rattle.manifest.specs.Manifest.{Fields, IsManifest, Table as Entry, spelling}
use Rattle.manifest.specs.declared.entries.ManifestHead.{ManifestHead}
use Rattle.pdtcli.specs.declared.refusal.Refusal.{Refusal}
use Rattle.pdtcli.specs.declared.refusal.Refusal.TheVariants.{DamagedManifest, MissingJournal, NoTable, NotNamed, Store}
use Rattle.segments.specs.Listing.{IsLast, IsMissing}
use Rattle.segments.specs.Naming.{place_of}
use Rattle.segments.specs.declared.fault.NameFault.{NameFault}
use Rattle.segments.specs.declared.fault.NameFault.TheVariants as name_fault
use Rattle.tables.specs.declared.wanted.WantedFiles.{WantedFiles}

-- a text spells a manifest with this head, of whose tables this one is meant
pub record IsMeant (text : List ℕ) (name : Option (List ℕ)) (head : ManifestHead) (t : Entry) : Type 0 where
  pub manifest : Fields
  pub place : ℕ
  pub lawful : IsManifest manifest
  pub spelt : text ≡ spelling manifest
  pub head_is : head ≡ manifest.head
  pub place_is : place_of name manifest.tables ≡ Ok place
  pub within : place < length manifest.tables
  pub table_is : slice_index_or manifest.tables place t ≡ t

-- no text of a manifest
abbrev pub IsNoManifest : List ℕ → Type 0
IsNoManifest text = (m : Fields) → IsManifest m → text ≡ spelling m → ⊥

-- a text spells a manifest, of whose tables none is meant
abbrev pub IsUnnamed : List ℕ → Option (List ℕ) → NameFault → Type 0
IsUnnamed text name fault = (m : Fields) × IsManifest m × (text ≡ spelling m) × (place_of name m.tables ≡ Err fault)

-- why no table is meant
abbrev pub IsUnmeant : List ℕ → Option (List ℕ) → Refusal → Type 0
IsUnmeant text name DamagedManifest = IsNoManifest text
IsUnmeant text name NoTable = IsUnnamed text name name_fault.NoTable
IsUnmeant text name NotNamed = IsUnnamed text name name_fault.NotNamed
IsUnmeant text name (Store fault) = fault ≡ store_fault.NoMemory
IsUnmeant text name other = ⊥

-- the files are those of the image of the table that is meant, and of the journal from the first file that the manifest names
pub record IsWanted (text : List ℕ) (name : Option (List ℕ)) (names : List (List ℕ)) (wanted : WantedFiles) : Type 0 where
  pub head : ManifestHead
  pub entry : Entry
  pub meant : IsMeant text name head entry
  pub table_is : wanted.table ≡ entry.line.number
  pub folder_is : wanted.folder ≡ entry.line.folder
  pub width_is : wanted.width ≡ length entry.columns
  pub first_is : wanted.first ≡ head.first_file
  pub last_is : IsLast head.first_file names wanted.last

-- why the files aren't told: a file of the journal isn't there, or no table is meant
abbrev pub IsUnwanted : List ℕ → Option (List ℕ) → List (List ℕ) → Refusal → Type 0
IsUnwanted text name names (MissingJournal file) =
    (head : ManifestHead) × (t : Entry) × IsMeant text name head t × IsMissing head.first_file names file
IsUnwanted text name names other = IsUnmeant text name other
