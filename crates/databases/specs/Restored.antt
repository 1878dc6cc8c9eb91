-- What is restored of a table of a database.
use Rattle.std.specs.Prelude.{◌≡◌, ◌≢◌, ◌≤◌, ◌⊎◌, ℕ, ◌+◌, ◌-◌, ◌^◌, nat_le, nat_lt, if◌then◌else◌, Bool, true, false, ◌&&◌, Some, None, Ok, Err, List, length, map}
use Rattle.values.specs.Shape.{Columns}
use Rattle.values.specs.declared.limits.TheConstants.{MAX_RECENT_COMMITS, MAX_ROWS}
use Rattle.values.specs.declared.row.Row.{Row}
use Rattle.codec.specs.Reading.{decoded}
use Rattle.devices.specs.Stored.{Image, stored_image}
use Rattle.frames.specs.declared.fault.ReadFault.TheVariants as read_fault
use Rattle.inputs.specs.Input.{IsFaultOf, IsTableOf}
use Rattle.inputs.specs.declared.fault.TableFault.TheVariants as table_fault
use Rattle.journal.specs.Header.{seed_of}
use Rattle.journal.specs.Reading.{Read, read_of}
use Rattle.manifest.specs.Manifest.{Table as Entry}
use Rattle.manifest.specs.declared.entries.ManifestHead.{ManifestHead}
use Rattle.model.specs.Effects.{Effects}
use Rattle.model.specs.Table.{Table, rows_of}
use Rattle.model.specs.declared.entry.Entry.{Entry as PdtEntry}
use Rattle.replay.specs.Recovered.{AreBehind, IsBlameless, IsCrashed, IsImage, IsTold, MayEnd, frames_since, logged_since, newest_in, payloads_since, table_at}
use Rattle.replay.specs.Replayed.{AreRead, AreSaid, IsCaused, IsMisfit, IsNamed, rows_after}
use Rattle.replay.specs.declared.fault.RecoverFault.{RecoverFault}
use Rattle.replay.specs.declared.fault.RecoverFault.TheVariants as fault
use Rattle.segments.specs.Marks.{first_damaged, has_mark}
use Rattle.databases.specs.declared.fault.RestoreFault.{RestoreFault}
use Rattle.databases.specs.declared.fault.RestoreFault.TheVariants as restore
use Rattle.databases.specs.declared.restoring.TableBytes.{TableBytes}
use Rattle.segments.specs.Pieces.{AreNoJournal, IsJoined, Piece, are_behind, last_len}
use Rattle.segments.specs.declared.fault.JoinFault.{JoinFault}
use Rattle.segments.specs.declared.fault.JoinFault.TheVariants.{OtherStore, BadManifest, NoMemory}

-- the bytes of a table's files: the header and the columns of its image, and the journal's, in turn
pub record Files : Type 0 where
  pub header : List ℕ
  pub columns : List (List ℕ)
  pub journal : List (List ℕ)

abbrev pub files_now : TableBytes → Files
files_now f = record { header = f.header.now; columns = map (λ c. c.now) f.columns.now; journal = map (λ c. c.now) f.journal.now }

-- a header says these columns, and maybe rows
abbrev pub SaysColumns : List ℕ → Columns → Type 0
SaysColumns text schema = (rows : List Row) × IsTableOf text schema rows

-- an image is whole: its files have the marks of the manifest, and store it under the columns of the header
pub record IsWhole (t : Entry) (files : Files) (schema : Columns) (image : Image) : Type 0 where
  pub header_is : has_mark t.header files.header ≡ true
  pub columns_are : first_damaged 0 t.columns files.columns ≡ None
  pub schema_is : SaysColumns files.header schema
  pub image_is : stored_image schema files.columns ≡ Ok image

-- rows are those after the first of the commits behind a base, as many as the device said were safe, or more: up to this number
pub record IsPrefix (base newest : ℕ) (t : Table) (commits : List Effects) (safe : ℕ) (rows : List Row) : Type 0 where
  pub whole : ℕ
  pub enough : safe ≤ whole
  pub inside : whole ≤ length commits
  pub number : newest ≡ base + whole
  pub rows_are : rows ≡ rows_of (table_at t commits whole)

-- ---- the commits since an image

-- those of the table that frames log
abbrev pub since : Image → ℕ → ℕ → ℕ → ℕ → List ℕ → List (List PdtEntry)
since image number table seed base frames = logged_since (decoded image.table.schema table) seed base number frames

-- the newest commit of a table and frames
abbrev pub newest_of : Image → ℕ → ℕ → ℕ → ℕ → List ℕ → ℕ
newest_of image number table seed base frames = number + length (since image number table seed base frames)

-- whether files stand behind one another: none begins after the newest commit, and the frames that aren't whole are in the last file that
-- has any; so many bytes of frames are whole, of so many
abbrev pub stands : List Piece → ℕ → ℕ → ℕ → Bool
stands pieces newest whole len = are_behind newest pieces && nat_le (len - whole) (last_len 0 pieces)

abbrev pub is_chain : List Piece → ℕ → List ℕ → Read → Bool
is_chain pieces newest frames read = stands pieces newest (length frames - length read.rest) (length frames)

-- The rows are those of the image of this number, with the commits of the frames since then. Wherever a crash fell: they are those of the
-- table after the first commits, as many as the device said were safe, or more
pub record AreRemade (image : Image) (number table seed base : ℕ) (frames : List ℕ) (rows : List Row) : Type 0 where
  pub rows_are : rows ≡ rows_after image.table.rows (since image number table seed base frames)
  pub ending : MayEnd (read_of seed (base + 1) frames).ending
  -- the newest commit is that of the last whole frame: one for all tables of the journal
  pub newest : newest_of image number table seed base frames ≡ newest_in seed base frames
  -- no commit is passed over
  pub reached : AreBehind base number (read_of seed (base + 1) frames)
  pub read : AreRead image.table.schema table (payloads_since seed base number frames)
  pub prefix :
      (t : Table) (commits : List Effects) (safe : ℕ)
      → IsCrashed (decoded image.table.schema table) image.table.schema seed base t commits safe frames
      → IsImage base t commits safe number image.table.rows
      → IsPrefix base (newest_in seed base frames) t commits safe rows

-- The commits aren't made again, and this is why. Wherever a crash fell, it is not for the journal's sake, where the payloads say the
-- commits' entries
pub record IsUnmade (image : Image) (number table seed base : ℕ) (frames : List ℕ) (fault : RecoverFault) : Type 0 where
  pub told : IsTold fault base number (read_of seed (base + 1) frames)
  pub caused : IsCaused MAX_RECENT_COMMITS MAX_ROWS image.table.rows (since image number table seed base frames) fault
  pub named : IsMisfit fault → IsNamed image.table.schema table (frames_since seed base number frames) fault
  pub sound :
      (t : Table) (commits : List Effects) (safe : ℕ)
      → (crash : IsCrashed (decoded image.table.schema table) image.table.schema seed base t commits safe frames)
      → AreSaid image.table.schema table t commits (map (λ l. l.payload) crash.logged)
      → IsImage base t commits safe number image.table.rows → IsBlameless fault

-- the fault of a file that isn't behind the one before it: the commit after the newest one is damaged
abbrev pub broken_after : ℕ → RecoverFault
broken_after newest = if nat_lt (newest + 1) (2 ^ 64) then fault.Rot (newest + 1) else fault.NumbersSpent

pub record IsBroken (image : Image) (number table seed base : ℕ) (frames : List ℕ) (pieces : List Piece) (fault : RecoverFault) : Type 0 where
  pub fault_is : fault ≡ broken_after (newest_of image number table seed base frames)
  pub chain : is_chain pieces (newest_of image number table seed base frames) frames (read_of seed (base + 1) frames) ≡ false

-- ---- a table

-- the rows are restored of the files: of the image, with the commits of the journal since then, up to its last whole frame
pub record AreRestored (head : ManifestHead) (t : Entry) (files : Files) (schema : Columns) (rows : List Row) : Type 0 where
  pub image : Image
  pub pieces : List Piece
  pub base : ℕ
  pub frames : List ℕ
  pub joined : IsJoined head files.journal pieces base frames
  pub whole : IsWhole t files schema image
  pub remade : AreRemade image t.line.commit t.line.number (seed_of head.salt) base frames rows
  pub chain :
      is_chain pieces (newest_of image t.line.commit t.line.number (seed_of head.salt) base frames) frames
      (read_of (seed_of head.salt) (base + 1) frames)
      ≡ true

-- the commits of the journal aren't made again over the image, or a file of the journal isn't behind the one before it
pub record IsUnrestored (head : ManifestHead) (t : Entry) (files : Files) (fault : RecoverFault) : Type 0 where
  pub schema : Columns
  pub image : Image
  pub pieces : List Piece
  pub base : ℕ
  pub frames : List ℕ
  pub joined : IsJoined head files.journal pieces base frames
  pub whole : IsWhole t files schema image
  pub unmade :
      IsUnmade image t.line.commit t.line.number (seed_of head.salt) base frames fault
      ⊎ IsBroken image t.line.commit t.line.number (seed_of head.salt) base frames pieces fault

-- the fault of files that are no journal
abbrev pub fault_of : JoinFault → RestoreFault
fault_of OtherStore = restore.OtherStore
fault_of BadManifest = restore.BadManifest
fault_of NoMemory = restore.NoMemory

-- the header and the columns of an image have the marks of the manifest
abbrev pub AreMarked : Entry → Files → Type 0
AreMarked t files = (has_mark t.header files.header ≡ true) × (first_damaged 0 t.columns files.columns ≡ None)

-- the first part of an image's files that is refused, with its fault; the parts before it are not refused
abbrev pub IsImageFault : Entry → Files → RestoreFault → Type 0
IsImageFault t files restore.DamagedHeader = has_mark t.header files.header ≡ false
IsImageFault t files (restore.DamagedColumn col) =
    (has_mark t.header files.header ≡ true) × (first_damaged 0 t.columns files.columns ≡ Some col)
IsImageFault t files (restore.Header fault) = AreMarked t files × (fault ≢ table_fault.NoMemory → IsFaultOf files.header fault)
IsImageFault t files (restore.Columns fault) =
    AreMarked t files × (schema : Columns) × SaysColumns files.header schema × (fault ≢ read_fault.NoMemory → stored_image schema files.columns ≡ Err fault)
IsImageFault t files restore.OtherStore = ⊥
IsImageFault t files restore.BadManifest = ⊥
IsImageFault t files (restore.Commits fault) = ⊥
IsImageFault t files restore.NoMemory = ⊥

-- the files of the journal are one
abbrev pub IsOneJournal : ManifestHead → Files → Type 0
IsOneJournal head files = (pieces : List Piece) × (base : ℕ) × (frames : List ℕ) × IsJoined head files.journal pieces base frames

-- the first part of the files that is refused, with its fault; the parts before it are not refused
abbrev pub IsLost : ManifestHead → Entry → Files → RestoreFault → Type 0
IsLost head t files restore.OtherStore = AreNoJournal head files.journal OtherStore
IsLost head t files restore.BadManifest = AreNoJournal head files.journal BadManifest
IsLost head t files restore.DamagedHeader = IsOneJournal head files × IsImageFault t files restore.DamagedHeader
IsLost head t files (restore.DamagedColumn col) = IsOneJournal head files × IsImageFault t files (restore.DamagedColumn col)
IsLost head t files (restore.Header fault) = IsOneJournal head files × IsImageFault t files (restore.Header fault)
IsLost head t files (restore.Columns fault) = IsOneJournal head files × IsImageFault t files (restore.Columns fault)
IsLost head t files (restore.Commits fault) = IsUnrestored head t files fault
IsLost head t files restore.NoMemory = Unit {0}
