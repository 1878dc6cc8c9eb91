-- What logged commits make of a table, when they are made again.
use Rattle.std.specs.Prelude.{◌≡◌, ℕ, ◌+◌, ◌<◌, ◌^◌, ◌⊎◌, true, List, [], ◌∷◌, length, Ok, Err, IsOk}
use Rattle.values.specs.declared.row.Row.{Row}
use Rattle.model.specs.declared.entry.Entry.{Entry}
use Rattle.model.specs.Effects.{Effects, table_with}
use Rattle.model.specs.Entries.{canonical_entries}
use Rattle.model.specs.Merging.{merged_rows}
use Rattle.model.specs.Table.{Table, rows_of}
use Rattle.values.specs.Shape.{Columns}
use Rattle.codec.specs.Reading.{entries_in}
use Rattle.codec.specs.declared.fault.PayloadFault.{PayloadFault}
use Rattle.journal.specs.Frame.{Logged}
use Rattle.codec.specs.declared.fault.PayloadFault.TheVariants as payload
use Rattle.manager.specs.Managed.{Managed, is_bad_limit, newest_number, newest_table}
use Rattle.replay.specs.declared.fault.RecoverFault.{RecoverFault}
use Rattle.replay.specs.declared.fault.RecoverFault.TheVariants as fault

-- the rows after logged commits: the entries of each are merged into those before
abbrev pub rows_after : List Row → List (List Entry) → List Row
rows_after rows [] = rows
rows_after rows (entries ∷ logged) = rows_after (merged_rows rows entries) logged

-- each payload is read: none is taken for one that says nothing
abbrev pub AreRead : Columns → ℕ → List (List ℕ) → Type 0
AreRead schema table [] = Unit {0}
AreRead schema table (payload ∷ payloads) = IsOk (entries_in schema table payload) × AreRead schema table payloads

-- a table on the way has more rows than a limit, or more entries are logged of one commit than a tree holds
abbrev pub IsPastLimit : ℕ → List Row → List (List Entry) → Type 0
IsPastLimit limit rows [] = limit < length rows
IsPastLimit limit rows (entries ∷ logged) =
    (limit < length rows) ⊎ ((2 ^ 40 < length entries) ⊎ IsPastLimit limit (merged_rows rows entries) logged)

-- one logged commit leaves more rows than a limit, or has more entries than a tree holds
abbrev pub IsTooLarge : ℕ → List Row → List Entry → Type 0
IsTooLarge limit rows entries = (2 ^ 40 < length entries) ⊎ (limit < length (merged_rows rows entries))

-- so many logged commits were made again: the rows are those after them, and each got the next number
pub record IsReplayed (old : Managed) (rows : List Row) (count : ℕ) (new : Managed) : Type 0 where
  pub rows_are : rows_of (newest_table new) ≡ rows
  pub number : newest_number new ≡ newest_number old + count
  pub schema : new.schema ≡ old.schema
  pub limit : new.start.limit ≡ old.start.limit
  pub recent : new.start.recent ≡ old.start.recent
  pub rule : new.start.rule ≡ old.start.rule

-- payloads say the entries of a table's commits, each over the table that those before it leave
abbrev pub AreSaid : Columns → ℕ → Table → List Effects → List (List ℕ) → Type 0
AreSaid schema table t [] [] = Unit {0}
AreSaid schema table t [] (payload ∷ payloads) = ⊥
AreSaid schema table t (x ∷ commits) [] = ⊥
AreSaid schema table t (x ∷ commits) (payload ∷ payloads) =
    (entries_in schema table payload ≡ Ok (canonical_entries t x)) × AreSaid schema table (table_with t x) commits payloads

-- whether a fault tells that what was logged makes no commit
abbrev pub IsMisfit : RecoverFault → Type 0
IsMisfit (fault.BadPayload n p) = Unit {0}
IsMisfit (fault.Misfit n) = Unit {0}
IsMisfit (fault.Rot n) = ⊥
IsMisfit (fault.Gap n) = ⊥
IsMisfit fault.NumbersSpent = ⊥
IsMisfit fault.BadLimit = ⊥
IsMisfit fault.TooManyRows = ⊥
IsMisfit fault.NoMemory = ⊥

-- the fault of a frame by that of its payload
abbrev pub fault_of_payload : ℕ → PayloadFault → RecoverFault
fault_of_payload n payload.NoMemory = fault.NoMemory
fault_of_payload n (payload.Short at) = fault.BadPayload n (payload.Short at)
fault_of_payload n (payload.BadTable at) = fault.BadPayload n (payload.BadTable at)
fault_of_payload n (payload.BadKind at) = fault.BadPayload n (payload.BadKind at)
fault_of_payload n (payload.BadColumn at) = fault.BadPayload n (payload.BadColumn at)
fault_of_payload n (payload.BadCell at) = fault.BadPayload n (payload.BadCell at)

-- a frame isn't replayed over rows: it is none of a journal or of an opening, and rows are too many for their cause
abbrev pub IsStopped : ℕ → List Row → List Entry → RecoverFault → Type 0
IsStopped limit rows entries fault.TooManyRows = IsTooLarge limit rows entries
IsStopped limit rows entries (fault.BadPayload n payload) = Unit {0}
IsStopped limit rows entries (fault.Misfit n) = Unit {0}
IsStopped limit rows entries fault.NoMemory = Unit {0}
IsStopped limit rows entries (fault.Rot n) = ⊥
IsStopped limit rows entries (fault.Gap n) = ⊥
IsStopped limit rows entries fault.NumbersSpent = ⊥
IsStopped limit rows entries fault.BadLimit = ⊥

-- a fault of limits has its cause: a limit is outside its range, or a table on the way has more rows than it
abbrev pub IsCaused : ℕ → ℕ → List Row → List (List Entry) → RecoverFault → Type 0
IsCaused recent limit rows logged fault.BadLimit = is_bad_limit recent limit ≡ true
IsCaused recent limit rows logged fault.TooManyRows = IsPastLimit limit rows logged
IsCaused recent limit rows logged (fault.Rot n) = Unit {0}
IsCaused recent limit rows logged (fault.Gap n) = Unit {0}
IsCaused recent limit rows logged fault.NumbersSpent = Unit {0}
IsCaused recent limit rows logged (fault.BadPayload n payload) = Unit {0}
IsCaused recent limit rows logged (fault.Misfit n) = Unit {0}
IsCaused recent limit rows logged fault.NoMemory = Unit {0}

-- a fault names this frame: its payload has the fault, or makes no commit
abbrev pub IsNamedAt : Columns → ℕ → Logged → RecoverFault → Type 0
IsNamedAt schema table l (fault.BadPayload n payload) = (n ≡ l.number) × (entries_in schema table l.payload ≡ Err payload)
IsNamedAt schema table l (fault.Misfit n) = n ≡ l.number
IsNamedAt schema table l (fault.Rot n) = ⊥
IsNamedAt schema table l (fault.Gap n) = ⊥
IsNamedAt schema table l fault.NumbersSpent = ⊥
IsNamedAt schema table l fault.BadLimit = ⊥
IsNamedAt schema table l fault.TooManyRows = ⊥
IsNamedAt schema table l fault.NoMemory = ⊥

-- and one of these frames
abbrev pub IsNamed : Columns → ℕ → List Logged → RecoverFault → Type 0
IsNamed schema table [] f = ⊥
IsNamed schema table (l ∷ logged) f = IsNamedAt schema table l f ⊎ IsNamed schema table logged f
