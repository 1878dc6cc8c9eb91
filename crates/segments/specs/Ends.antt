-- Where a journal in files ends: whether its files stand behind one another, and what stays of the last one.
use Rattle.std.specs.Prelude.{◌≡◌, ◌<◌, ◌≤◌, ◌⊎◌, ◌^◌, ℕ, ◌+◌, ◌-◌, ◌==◌, nat_lt, Bool, true, false, not, ◌&&◌, ◌||◌, if◌then◌else◌, List, [], ◌∷◌, length, take, drop, get_or}
use Rattle.segments.specs.Pieces.{base_or, is_behind}
use Rattle.segments.specs.Segment.{base_in}
use Rattle.segments.specs.declared.ends.JournalEnd.{JournalEnd}
use Rattle.segments.specs.declared.fault.EndFault.{EndFault}
use Rattle.segments.specs.declared.fault.EndFault.TheVariants.{Damaged, Missing}
use Rattle.segments.specs.declared.segment.Segment.{Segment}

-- the number of the commit before the first frame; where the first file has no header, a commit that was safe
abbrev pub base_before : ℕ → List Segment → ℕ
base_before commit [] = commit
base_before commit (s ∷ ss) = base_or commit (base_in s)

-- how many bytes of frames files have
unfoldable pub frames_len : List Segment → ℕ
frames_len [] = 0
frames_len (s ∷ ss) = s.len + frames_len ss

-- the file at a place
abbrev pub file_at : List Segment → ℕ → Segment
file_at files place = get_or files place (record { base = 0; front = 0; len = 0 })

-- whether no file begins after the newest commit
unfoldable pub begin_in_time : ℕ → List Segment → Bool
begin_in_time newest [] = true
begin_in_time newest (s ∷ ss) = is_behind newest (base_in s) && begin_in_time newest ss

-- the file of a place is the last that has frames, or the first one, where none has
pub record IsLast (files : List Segment) (place : ℕ) : Type 0 where
  pub there : place < length files
  pub behind : frames_len (drop (place + 1) files) ≡ 0
  pub some : (place ≡ 0) ⊎ (0 < (file_at files place).len)

-- whether a file has to be written anew before anything is written behind it: but where the device is known to have all of it, a sync of it
-- may have failed, and then the system takes bytes for written that the device hasn't
abbrev pub is_anew : Segment → Bool → Bool
is_anew s is_durable = not is_durable && (nat_lt 0 s.front || nat_lt 0 s.len)

-- The files of a journal stand behind one another, so many bytes of their frames are whole, up to the frame of the newest commit, and no
-- commit is gone that the manifest notes as durable: the journal goes on behind the whole frames of the last file that has any
pub record GoesOn (files : List Segment) (newest whole noted : ℕ) (end : JournalEnd) : Type 0 where
  pub durable : noted ≤ newest
  pub in_time : begin_in_time newest files ≡ true
  pub last : IsLast files end.place
  -- all that isn't whole is torn off, and it is the end of this one file
  pub torn : end.torn ≡ frames_len files - whole
  pub kept : end.kept + end.torn ≡ (file_at files end.place).len
  -- the device is known to have all of the file where nothing is torn and the manifest notes the newest commit
  pub anew : end.is_anew ≡ is_anew (file_at files end.place) ((end.torn == 0) && (newest == noted))

-- the commit after the newest one, if a number is left
abbrev pub due_after : ℕ → ℕ
due_after newest = if nat_lt (newest + 1) (2 ^ 64) then newest + 1 else newest

-- frames are behind the first that isn't whole in another file
abbrev pub IsTornBefore : List Segment → ℕ → Type 0
IsTornBefore files whole = (place : ℕ) × (whole < frames_len (take place files)) × (0 < frames_len (drop place files))

-- a journal doesn't go on, and this is why: each fault names the commit after the newest one
abbrev pub IsMissed : List Segment → ℕ → ℕ → ℕ → EndFault → Type 0
-- other bytes are in the place of a durable commit, or the files don't stand behind one another
IsMissed files newest whole noted (Damaged commit) =
    (commit ≡ due_after newest)
    × (((newest < noted) × (whole < frames_len files)) ⊎ ((begin_in_time newest files ≡ false) ⊎ IsTornBefore files whole))
-- no bytes are in the place of a durable commit, or there is no file
IsMissed files newest whole noted (Missing commit) =
    (commit ≡ due_after newest) × (((newest < noted) × (frames_len files ≤ whole)) ⊎ (length files ≡ 0))
