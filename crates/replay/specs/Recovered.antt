-- What is recovered of a journal after a crash.
use Rattle.std.specs.Prelude.{◌≡◌, ◌<◌, ◌≤◌, ℕ, ◌+◌, ◌-◌, ◌^◌, List, length, map, take, drop}
use Rattle.values.specs.Shape.{Columns}
use Rattle.values.specs.declared.row.Row.{Row}
use Rattle.model.specs.declared.entry.Entry.{Entry}
use Rattle.model.specs.Effects.{Effects}
use Rattle.model.specs.Laws.{AreCommits, trees_of}
use Rattle.model.specs.Table.{Table, rows_of}
use Rattle.model.specs.History.{table_with_all}
use Rattle.journal.specs.Crash.{IsLeft}
use Rattle.journal.specs.Frame.{AreLogged, Logged}
use Rattle.journal.specs.Laws.{IsSeed}
use Rattle.journal.specs.Reading.{Read, read_of}
use Rattle.journal.specs.declared.frame.Ending.{Ending}
use Rattle.journal.specs.declared.frame.Ending.TheVariants.{End, Torn, Rot, Gap}
use Rattle.manager.specs.Managed.{Managed, newest_number, newest_table}
use Rattle.replay.specs.Replayed.{rows_after}
use Rattle.replay.specs.declared.fault.RecoverFault.{RecoverFault}
use Rattle.replay.specs.declared.fault.RecoverFault.TheVariants as fault

-- frames log commits over a table: under the numbers from a base on, each by the entries that a payload says
pub record Logs (decode : List ℕ → List Entry) (schema : Columns) (base : ℕ) (t : Table) (commits : List Effects) (logged : List Logged) :
    Type 0 where
  pub commits_fit : AreCommits schema t commits
  pub numbered : AreLogged (base + 1) logged
  pub entries : map (λ l. decode l.payload) logged ≡ trees_of schema t commits

-- A crash left these bytes of a journal of the commits, of which the device had said so many were safe.
pub record IsCrashed (decode : List ℕ → List Entry) (schema : Columns) (seed base : ℕ) (t : Table) (commits : List Effects) (safe : ℕ)
    (bytes : List ℕ) : Type 0 where
  pub small : IsSeed seed
  pub logged : List Logged
  pub logs : Logs decode schema base t commits logged
  pub few : (base + 1) + length logged ≤ 2 ^ 63
  pub left : IsLeft seed (base + 1) logged safe bytes

-- frames that were read behind a base go on from an image of this number: no commit between them is missing
pub record AreBehind (base number : ℕ) (read : Read) : Type 0 where
  pub from : base ≤ number
  pub upto : number ≤ base + length read.logged

-- the number of the newest commit that bytes say behind a base
abbrev pub newest_in : ℕ → ℕ → List ℕ → ℕ
newest_in seed base bytes = base + length (read_of seed (base + 1) bytes).logged

-- the table after the first of the commits
abbrev pub table_at : Table → List Effects → ℕ → Table
table_at t commits k = table_with_all t (take k commits)

-- the logged commits that bytes say as a journal, from the one after an image on
abbrev pub logged_since : (List ℕ → List Entry) → ℕ → ℕ → ℕ → List ℕ → List (List Entry)
logged_since decode seed base number bytes = map (λ l. decode l.payload) (drop (number - base) (read_of seed (base + 1) bytes).logged)

-- those frames
abbrev pub frames_since : ℕ → ℕ → ℕ → List ℕ → List Logged
frames_since seed base number bytes = drop (number - base) (read_of seed (base + 1) bytes).logged

-- and their payloads
abbrev pub payloads_since : ℕ → ℕ → ℕ → List ℕ → List (List ℕ)
payloads_since seed base number bytes = map (λ l. l.payload) (frames_since seed base number bytes)

-- Wherever a crash falls: over the image of one of the commits that were safe, what is recovered is the table after the first
-- commits, as many as the device said were safe, or more. Whatever payloads are spelt like.
abbrev pub RecoveryIsAPrefix : Type 0
RecoveryIsAPrefix =
    (decode : List ℕ → List Entry) (schema : Columns) (seed base : ℕ) (t : Table) (commits : List Effects) (safe number : ℕ)
    (bytes : List ℕ)
    → IsCrashed decode schema seed base t commits safe bytes → base ≤ number → number ≤ base + safe
    → (whole : ℕ) × (safe ≤ whole) × (whole ≤ length commits)
    × (number + length (logged_since decode seed base number bytes) ≡ base + whole)
    × (rows_after (rows_of (table_at t commits (number - base))) (logged_since decode seed base number bytes)
    ≡ rows_of (table_at t commits whole))

-- the rows of an image are those of the table of its number, whose commits were all safe
pub record IsImage (base : ℕ) (t : Table) (commits : List Effects) (safe number : ℕ) (rows : List Row) : Type 0 where
  pub from : base ≤ number
  pub upto : number ≤ base + safe
  pub rows_are : rows ≡ rows_of (table_at t commits (number - base))

-- a manager has the table after the first of the commits, those that were safe among them
pub record HasPrefix (base : ℕ) (t : Table) (commits : List Effects) (safe : ℕ) (m : Managed) : Type 0 where
  pub whole : ℕ
  pub enough : safe ≤ whole
  pub inside : whole ≤ length commits
  pub number : newest_number m ≡ base + whole
  pub rows_are : rows_of (newest_table m) ≡ rows_of (table_at t commits whole)

-- ---- what is told of bytes that aren't recovered from

-- a journal may end so after a crash
abbrev pub MayEnd : Ending → Type 0
MayEnd End = Unit {0}
MayEnd Torn = Unit {0}
MayEnd Rot = ⊥
MayEnd Gap = ⊥

-- whether a fault is one of an opening or of a frame that was read
abbrev pub IsLate : RecoverFault → Type 0
IsLate (fault.Rot n) = ⊥
IsLate (fault.Gap n) = ⊥
IsLate fault.NumbersSpent = ⊥
IsLate (fault.BadPayload n payload) = Unit {0}
IsLate (fault.Misfit n) = Unit {0}
IsLate fault.BadLimit = Unit {0}
IsLate fault.TooManyRows = Unit {0}
IsLate fault.NoMemory = Unit {0}

-- whether a fault is one of limits, numbers or memory, and none of a journal
abbrev pub IsBlameless : RecoverFault → Type 0
IsBlameless (fault.Rot n) = ⊥
IsBlameless (fault.Gap n) = ⊥
IsBlameless fault.NumbersSpent = Unit {0}
IsBlameless (fault.BadPayload n payload) = ⊥
IsBlameless (fault.Misfit n) = ⊥
IsBlameless fault.BadLimit = Unit {0}
IsBlameless fault.TooManyRows = Unit {0}
IsBlameless fault.NoMemory = Unit {0}

-- a commit is the first that is missing between an image and frames behind a base: the one after the image, where they begin after
-- it; or the one that is due after them, where they end before it
abbrev pub IsMissing : ℕ → ℕ → ℕ → ℕ → Type 0
IsMissing n base number due = (number < base → n ≡ number + 1) × (base ≤ number → (due ≤ number) × (n ≡ due))

-- and where another frame stands after them, that of the commit that is due
abbrev pub IsGapAfter : Ending → ℕ → ℕ → ℕ → ℕ → Type 0
IsGapAfter End n base number due = IsMissing n base number due
IsGapAfter Torn n base number due = IsMissing n base number due
IsGapAfter Rot n base number due = ⊥
IsGapAfter Gap n base number due = n ≡ due

-- the first frame that isn't read is damaged though it was safe, or a commit is missing, or more were made than are numbered
abbrev pub IsTold : RecoverFault → ℕ → ℕ → Read → Type 0
IsTold (fault.Rot n) base number read = (read.ending ≡ Rot) × (n ≡ base + 1 + length read.logged)
IsTold (fault.Gap n) base number read = IsGapAfter read.ending n base number (base + 1 + length read.logged)
IsTold fault.NumbersSpent base number read = MayEnd read.ending × (2 ^ 62 < base + length read.logged)
IsTold (fault.BadPayload n payload) base number read = MayEnd read.ending
IsTold (fault.Misfit n) base number read = MayEnd read.ending
IsTold fault.BadLimit base number read = MayEnd read.ending
IsTold fault.TooManyRows base number read = MayEnd read.ending
IsTold fault.NoMemory base number read = Unit {0}
