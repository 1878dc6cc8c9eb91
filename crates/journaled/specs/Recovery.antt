-- What is recovered of the files of a store with a journal.
use Rattle.std.specs.Prelude.{◌≡◌, ◌≢◌, ◌≤◌, ℕ, ◌+◌, ◌==◌, if◌then◌else◌, Some, Result, Ok, Err, List, length, map}
use Rattle.values.specs.Shape.{Columns}
use Rattle.values.specs.declared.limits.TheConstants.{MAX_RECENT_COMMITS, MAX_ROWS}
use Rattle.values.specs.declared.row.Row.{Row}
use Rattle.codec.specs.Reading.{decoded}
use Rattle.devices.specs.Stored.{Image, stored_image}
use Rattle.frames.specs.declared.fault.ReadFault.TheVariants as read_fault
use Rattle.images.specs.Mark.{number_in}
use Rattle.images.specs.Reading.{IsUnknown}
use Rattle.journal.specs.Header.{HeaderFields, header_in, seed_of}
use Rattle.journal.specs.Reading.{Read, read_of}
use Rattle.journal.specs.declared.fault.HeaderFault.{HeaderFault}
use Rattle.model.specs.Effects.{Effects}
use Rattle.model.specs.Table.{Table, rows_of}
use Rattle.pdtcli.specs.declared.refusal.Refusal.{Refusal}
use Rattle.pdtcli.specs.declared.refusal.Refusal.TheVariants as refusal
use Rattle.replay.specs.Recovered.{AreBehind, IsBlameless, IsCrashed, IsImage, IsTold, MayEnd, frames_since, logged_since, payloads_since, table_at}
use Rattle.replay.specs.Replayed.{AreRead, AreSaid, IsCaused, IsMisfit, IsNamed, rows_after}
use Rattle.replay.specs.declared.fault.RecoverFault.{RecoverFault}
use Rattle.journaled.specs.declared.recovery.Pair.{Pair as Lent}

-- the bytes of a store's files: its columns, its images' marks, and the journal of its commits
pub record Files : Type 0 where
  pub columns : List (List ℕ)
  pub images : List ℕ
  pub commits : List ℕ

-- the two journals, each by its header and the bytes after it
pub record Pair : Type 0 where
  pub images : HeaderFields
  pub marks : List ℕ
  pub commits : HeaderFields
  pub frames : List ℕ

abbrev pub pair_with : Result (HeaderFields × List ℕ) HeaderFault → Result (HeaderFields × List ℕ) HeaderFault → Result Pair Refusal
pair_with (Err fault) logged = Err (refusal.ImagesHeader fault)
pair_with (Ok marked) (Err fault) = Err (refusal.JournalHeader fault)
pair_with (Ok marked) (Ok logged) =
    if marked.0.store == logged.0.store
    then Ok (record { images = marked.0; marks = marked.1; commits = logged.0; frames = logged.1 })
    else Err refusal.OtherStore

-- the two journals of one store that bytes say, or the first fault
abbrev pub pair_of : List ℕ → List ℕ → Result Pair Refusal
pair_of images commits = pair_with (header_in images) (header_in commits)

-- what an answer says
abbrev pub pair_now : Result Lent Refusal → Result Pair Refusal
pair_now (Ok pair) =
    Ok (record { images = pair.images; marks = pair.marks.now; commits = pair.commits; frames = pair.frames.now })
pair_now (Err fault) = Err fault

-- what the journals are read as
abbrev pub marks_read : Pair → Read
marks_read pair = read_of (seed_of pair.images.salt) (pair.images.base + 1) pair.marks

abbrev pub commits_read : Pair → Read
commits_read pair = read_of (seed_of pair.commits.salt) (pair.commits.base + 1) pair.frames

-- rows are those after the first of the commits, as many as the device said were safe, or more
pub record IsPrefix (t : Table) (commits : List Effects) (safe : ℕ) (rows : List Row) : Type 0 where
  pub whole : ℕ
  pub enough : safe ≤ whole
  pub inside : whole ≤ length commits
  pub rows_are : rows ≡ rows_of (table_at t commits whole)

-- the files of a store say its journals, an image, and its number
pub record IsRead (schema : Columns) (files : Files) (pair : Pair) (image : Image) (number : ℕ) : Type 0 where
  pub pair_is : pair_of files.images files.commits ≡ Ok pair
  pub image_is : stored_image schema files.columns ≡ Ok image
  pub number_is : Some number ≡ number_in image.generation (marks_read pair).logged

-- The rows are those of the newest image, with the commits of the journal since then. Wherever a crash fell: they are those of the
-- table after the first commits, as many as the device said were safe, or more
pub record IsRecovered (schema : Columns) (files : Files) (rows : List Row) : Type 0 where
  pub pair : Pair
  pub image : Image
  pub number : ℕ
  pub read : IsRead schema files pair image number
  pub rows_are :
      rows
      ≡ rows_after image.table.rows
      (logged_since (decoded image.table.schema 0) (seed_of pair.commits.salt) pair.commits.base number pair.frames)
  pub ending : MayEnd (commits_read pair).ending
  -- no commit is passed over
  pub reached : AreBehind pair.commits.base number (commits_read pair)
  pub payloads : AreRead image.table.schema 0 (payloads_since (seed_of pair.commits.salt) pair.commits.base number pair.frames)
  pub prefix :
      (t : Table) (commits : List Effects) (safe : ℕ)
      → IsCrashed (decoded image.table.schema 0) image.table.schema (seed_of pair.commits.salt) pair.commits.base t commits safe
      pair.frames
      → IsImage pair.commits.base t commits safe number image.table.rows
      → IsPrefix t commits safe rows

-- The commits aren't made again, and this is why. Wherever a crash fell, it is not for the journal's sake, where the payloads say the
-- commits' entries
pub record IsUnmade (schema : Columns) (files : Files) (fault : RecoverFault) : Type 0 where
  pub pair : Pair
  pub image : Image
  pub number : ℕ
  pub read : IsRead schema files pair image number
  pub told : IsTold fault pair.commits.base number (commits_read pair)
  pub caused :
      IsCaused MAX_RECENT_COMMITS MAX_ROWS image.table.rows
      (logged_since (decoded image.table.schema 0) (seed_of pair.commits.salt) pair.commits.base number pair.frames)
      fault
  pub named :
      IsMisfit fault
      → IsNamed image.table.schema 0 (frames_since (seed_of pair.commits.salt) pair.commits.base number pair.frames) fault
  pub sound :
      (t : Table) (commits : List Effects) (safe : ℕ)
      → (crash :
      IsCrashed (decoded image.table.schema 0) image.table.schema (seed_of pair.commits.salt) pair.commits.base t commits safe
      pair.frames)
      → AreSaid image.table.schema 0 t commits (map (λ l. l.payload) crash.logged)
      → IsImage pair.commits.base t commits safe number image.table.rows → IsBlameless fault

-- the first part of the files that is refused, with its fault; the parts before it are not refused
abbrev pub IsLost : Columns → Files → Refusal → Type 0
IsLost schema files (refusal.ImagesHeader fault) = pair_of files.images files.commits ≡ Err (refusal.ImagesHeader fault)
IsLost schema files (refusal.JournalHeader fault) = pair_of files.images files.commits ≡ Err (refusal.JournalHeader fault)
IsLost schema files refusal.OtherStore = pair_of files.images files.commits ≡ Err refusal.OtherStore
IsLost schema files (refusal.Columns fault) =
    (pair : Pair) × (pair_of files.images files.commits ≡ Ok pair)
    × (fault ≢ read_fault.NoMemory → stored_image schema files.columns ≡ Err fault)
IsLost schema files (refusal.Images fault) =
    (pair : Pair) × (image : Image) × (pair_of files.images files.commits ≡ Ok pair) × (stored_image schema files.columns ≡ Ok image)
    × IsUnknown fault pair.images.base image.generation (marks_read pair)
IsLost schema files (refusal.Commits fault) = IsUnmade schema files fault
IsLost schema files (refusal.Output fault) = (rows : List Row) × IsRecovered schema files rows
IsLost schema files other = ⊥
