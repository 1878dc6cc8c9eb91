-- What is reopened on a stored image and a journal.
use Rattle.std.specs.Prelude.{◌≡◌, ◌≢◌, ◌⊎◌, ℕ, ◌+◌, ◌-◌, true, false, List, Ok, length, map}
use Rattle.codec.specs.Reading.{decoded}
use Rattle.devices.specs.Stored.{stored_image}
use Rattle.inputs.specs.Input.{IsFaultOf, IsTableOf}
use Rattle.inputs.specs.declared.fault.TableFault.TheVariants.{TooManyRows}
use Rattle.journal.specs.Reading.{read_of}
use Rattle.manager.specs.Managed.{Managed, is_bad_limit, newest_number, newest_table}
use Rattle.model.specs.Effects.{Effects}
use Rattle.model.specs.declared.clash.ConflictRule.{ConflictRule}
use Rattle.model.specs.Table.{Table, rows_of}
use Rattle.replay.specs.Recovered.{AreBehind, HasPrefix, IsBlameless, IsCrashed, IsImage, IsTold, MayEnd, frames_since, logged_since, newest_in, payloads_since}
use Rattle.replay.specs.Replayed.{AreRead, AreSaid, IsMisfit, IsNamed, IsPastLimit, rows_after}
use Rattle.replay.specs.declared.fault.RecoverFault.{RecoverFault}
use Rattle.replay.specs.declared.fault.RecoverFault.TheVariants as fault
use Rattle.stable.specs.Stable.{Stable}
use Rattle.values.specs.Shape.{Columns}
use Rattle.pdt_c.specs.declared.codes.TheConstants.{BAD_LIMIT, DONE, GAP, MISFIT, NO_MEMORY, ROT, TOO_MANY_ROWS}

-- an image is that which columns store under a schema
pub record IsImageUnder (schema : Columns) (columns : List (List ℕ)) (image : Stable) : Type 0 where
  pub generation : ℕ
  pub stored_is : stored_image schema columns ≡ Ok (record { generation = generation; table = image })

-- an image is that which columns store under the schema of a header
pub record IsImageIn (header : List ℕ) (columns : List (List ℕ)) (image : Stable) : Type 0 where
  pub empty : Stable
  pub schema_is : IsTableOf header empty.schema empty.rows
  pub image_is : IsImageUnder empty.schema columns image

-- a manager that was opened on an image, which so many commits made, and the frames of a journal behind a base: so many bytes of them
-- are whole
pub record IsRemadeOf (image : Stable) (number table seed base : ℕ) (frames : List ℕ) (whole : ℕ) (m : Managed) : Type 0 where
  pub schema : m.schema ≡ image.schema
  pub rows : rows_of (newest_table m) ≡ rows_after image.rows (logged_since (decoded image.schema table) seed base number frames)
  pub number_is : newest_number m ≡ number + length (logged_since (decoded image.schema table) seed base number frames)
  -- the newest commit is that of the last whole frame: one for all tables of the journal
  pub newest_is : newest_number m ≡ newest_in seed base frames
  pub whole_is : whole ≡ length frames - length (read_of seed (base + 1) frames).rest
  pub ending : MayEnd (read_of seed (base + 1) frames).ending
  -- no commit is passed over
  pub reached : AreBehind base number (read_of seed (base + 1) frames)
  pub read : AreRead image.schema table (payloads_since seed base number frames)
  -- wherever a crash fell
  pub prefix :
      (t : Table) (commits : List Effects) (safe : ℕ)
      → IsCrashed (decoded image.schema table) image.schema seed base t commits safe frames
      → IsImage base t commits safe number image.rows
      → HasPrefix base t commits safe m
  -- clauses alone see its records
  pub keeps : m.keeps ≡ false

-- a manager has these limits and this rule
pub record IsUnder (row_limit recent : ℕ) (rule : ConflictRule) (m : Managed) : Type 0 where
  pub limit : m.start.limit ≡ row_limit
  pub recent_is : m.start.recent ≡ recent
  pub rule_is : m.start.rule ≡ rule

-- a manager that was opened on the image that columns store and the frames behind a base, under these limits and this rule
pub record IsReopenedOn (header : List ℕ) (columns : List (List ℕ)) (row_limit recent : ℕ) (rule : ConflictRule)
    (number table seed base : ℕ) (frames : List ℕ) (whole : ℕ) (m : Managed) : Type 0 where
  pub image : Stable
  pub image_is : IsImageIn header columns image
  pub remade : IsRemadeOf image number table seed base frames whole m
  pub under : IsUnder row_limit recent rule m

-- ---- what C is told where nothing is reopened

-- the code of a fault, and the commit that it names, or 0
abbrev pub told_fault : RecoverFault → ℕ × ℕ
told_fault (fault.Rot n) = (ROT, n)
told_fault (fault.Gap n) = (GAP, n)
told_fault (fault.BadPayload n payload) = (MISFIT, n)
told_fault (fault.Misfit n) = (MISFIT, n)
told_fault fault.NumbersSpent = (MISFIT, 0)
told_fault fault.BadLimit = (BAD_LIMIT, 0)
told_fault fault.TooManyRows = (TOO_MANY_ROWS, 0)
told_fault fault.NoMemory = (NO_MEMORY, 0)

-- MISFIT of an image and frames, with a commit: the newest commit has too great a number, or the payload of a commit since the image,
-- which is named, can't be read or makes none. Wherever a crash fell, none is named where the payloads say the commits' entries
pub record IsMisfitOf (image : Stable) (number table seed base : ℕ) (frames : List ℕ) (commit : ℕ) : Type 0 where
  pub fault : RecoverFault
  pub code_is : told_fault fault ≡ (MISFIT, commit)
  pub told : IsTold fault base number (read_of seed (base + 1) frames)
  pub named : IsMisfit fault → IsNamed image.schema table (frames_since seed base number frames) fault
  pub sound :
      (t : Table) (commits : List Effects) (safe : ℕ)
      → (crash : IsCrashed (decoded image.schema table) image.schema seed base t commits safe frames)
      → AreSaid image.schema table t commits (map (λ l. l.payload) crash.logged)
      → IsImage base t commits safe number image.rows
      → IsBlameless fault

-- a table on the way from an image has more rows than a limit
abbrev pub IsOverfull : Stable → ℕ → ℕ → ℕ → ℕ → ℕ → List ℕ → Type 0
IsOverfull image row_limit number table seed base frames =
    IsPastLimit row_limit image.rows (logged_since (decoded image.schema table) seed base number frames)

-- nothing is remade of an image and frames: each code has its cause
pub record IsUnmade (image : Stable) (row_limit recent number table seed base : ℕ) (frames : List ℕ) (code commit : ℕ) : Type 0 where
  pub some : code ≢ DONE
  pub rot : code ≡ ROT → IsTold (fault.Rot commit) base number (read_of seed (base + 1) frames)
  pub gap : code ≡ GAP → IsTold (fault.Gap commit) base number (read_of seed (base + 1) frames)
  pub misfit : code ≡ MISFIT → IsMisfitOf image number table seed base frames commit
  pub limits : code ≡ BAD_LIMIT → is_bad_limit recent row_limit ≡ true
  pub full : code ≡ TOO_MANY_ROWS → IsOverfull image row_limit number table seed base frames

-- nothing is reopened, and each code has its cause: rot and a gap are told with the commit that is the first damaged or missing
pub record IsRefusal (header : List ℕ) (columns : List (List ℕ)) (row_limit recent number table seed base : ℕ) (frames : List ℕ)
    (code commit : ℕ) : Type 0 where
  pub some : code ≢ DONE
  pub rot : code ≡ ROT → IsTold (fault.Rot commit) base number (read_of seed (base + 1) frames)
  pub gap : code ≡ GAP → IsTold (fault.Gap commit) base number (read_of seed (base + 1) frames)
  pub misfit :
      code ≡ MISFIT → (image : Stable) × IsImageIn header columns image × IsMisfitOf image number table seed base frames commit
  pub limits : code ≡ BAD_LIMIT → is_bad_limit recent row_limit ≡ true
  pub full :
      code ≡ TOO_MANY_ROWS
      → IsFaultOf header TooManyRows
      ⊎ ((image : Stable) × IsImageIn header columns image × IsOverfull image row_limit number table seed base frames)
