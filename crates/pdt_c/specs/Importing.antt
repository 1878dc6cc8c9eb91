-- The number of the newest image of a store that the program has made: how many commits had made it.
use Rattle.std.specs.Prelude.{◌≡◌, ◌≢◌, ◌≤◌, ◌<◌, ◌^◌, ◌+◌, ℕ, None, Some, List, Ok, Err}
use Rattle.devices.specs.Stored.{Image, stored_image}
use Rattle.frames.specs.declared.fault.ReadFault.{ReadFault}
use Rattle.frames.specs.declared.fault.ReadFault.TheVariants as read_fault
use Rattle.images.specs.Mark.{bad_mark, number_in}
use Rattle.images.specs.Reading.{IsUnknown, MayEnd}
use Rattle.images.specs.declared.fault.ImagesFault.{ImagesFault}
use Rattle.images.specs.declared.fault.ImagesFault.TheVariants as images_fault
use Rattle.inputs.specs.Input.{IsTableOf}
use Rattle.journal.specs.Reading.{Read, read_of}
use Rattle.stable.specs.Stable.{Stable}
use Rattle.pdt_c.specs.declared.codes.TheConstants.{BAD_STORE, DONE, GAP, MISFIT, NO_COLUMN, NO_IMAGE, NO_MEMORY, ROT}

-- ---- what is found

-- an image is that which columns store under the schema of a header
pub record IsStoredIn (header : List ℕ) (columns : List (List ℕ)) (image : Image) : Type 0 where
  pub empty : Stable
  pub schema_is : IsTableOf header empty.schema empty.rows
  pub image_is : stored_image empty.schema columns ≡ Ok image

-- a number is that of the last mark of a generation among marks that were read, of which none is passed over
pub record IsNumberOf (generation : ℕ) (read : Read) (number : ℕ) : Type 0 where
  pub number_is : Some number ≡ number_in generation read.logged
  pub ending : MayEnd read.ending
  pub good : bad_mark read.logged ≡ None

-- a number is that of the image which columns store, by the marks behind a base
pub record IsMarkedIn (header : List ℕ) (columns : List (List ℕ)) (seed base : ℕ) (marks : List ℕ) (number : ℕ) : Type 0 where
  pub image : Image
  pub stored : IsStoredIn header columns image
  pub number_is : IsNumberOf image.generation (read_of seed (base + 1) marks) number

-- ---- what C is told where nothing is found

-- the code of a fault of columns, and the column that it names, or that it names none
abbrev pub told_reading : ReadFault → ℕ × ℕ
told_reading read_fault.WrongCount = (BAD_STORE, NO_COLUMN)
told_reading (read_fault.BadFrame column offset) = (BAD_STORE, column)
told_reading (read_fault.TypesDiffer column) = (BAD_STORE, column)
told_reading (read_fault.BadBlock column offset fault) = (BAD_STORE, column)
told_reading read_fault.NoImage = (NO_IMAGE, NO_COLUMN)
told_reading read_fault.CountsDiffer = (BAD_STORE, NO_COLUMN)
told_reading read_fault.TooManyRows = (BAD_STORE, NO_COLUMN)
told_reading (read_fault.NotAscending row) = (BAD_STORE, NO_COLUMN)
told_reading read_fault.NoMemory = (NO_MEMORY, NO_COLUMN)

-- the code of a fault of marks, and the mark that it names, or 0
abbrev pub told_marks : ImagesFault → ℕ × ℕ
told_marks (images_fault.Rot n) = (ROT, n)
told_marks (images_fault.Gap n) = (GAP, n)
told_marks (images_fault.BadMark n) = (MISFIT, n)
told_marks (images_fault.Unmarked generation) = (MISFIT, 0)
told_marks images_fault.NoMemory = (NO_MEMORY, 0)

-- what is told is the first fault of columns under the schema of a header
pub record IsUnstoredIn (header : List ℕ) (columns : List (List ℕ)) (code place : ℕ) : Type 0 where
  pub empty : Stable
  pub schema_is : IsTableOf header empty.schema empty.rows
  pub fault : ReadFault
  pub fault_is : stored_image empty.schema columns ≡ Err fault
  pub told : told_reading fault ≡ (code, place)

-- what is told is why marks that were read don't say the number of a generation
pub record IsUnmarked (base generation : ℕ) (read : Read) (code place : ℕ) : Type 0 where
  pub fault : ImagesFault
  pub fault_is : IsUnknown fault base generation read
  pub told : told_marks fault ≡ (code, place)

-- the same of the marks behind a base, and the image that columns store
pub record IsUnmarkedIn (header : List ℕ) (columns : List (List ℕ)) (seed base : ℕ) (marks : List ℕ) (code place : ℕ) : Type 0 where
  pub image : Image
  pub stored : IsStoredIn header columns image
  pub unmarked : IsUnmarked base image.generation (read_of seed (base + 1) marks) code place

-- nothing is found: damaged columns are told with the first that is, and the marks with the first that is, where the base is one that a
-- journal has
pub record IsUntold (header : List ℕ) (columns : List (List ℕ)) (seed base : ℕ) (marks : List ℕ) (code place : ℕ) : Type 0 where
  pub some : code ≢ DONE
  pub unstored : code ≡ BAD_STORE → IsUnstoredIn header columns code place
  pub unmarked : ROT ≤ code → base < 2 ^ 63 → IsUnmarkedIn header columns seed base marks code place
