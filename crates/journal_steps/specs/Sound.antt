-- What holds of a journal on a disk at every moment.
use Rattle.std.specs.Prelude.{◌≡◌, ◌≤◌, ◌<◌, ◌⊎◌, ◌^◌, ℕ, ◌+◌, ◌-◌, Bool, true, false, Option, Some, None, List, [], ◌∷◌, ◌++◌, length, take, drop}
use Rattle.disk.specs.Disk.{Disk, File, MayName, named}
use Rattle.journal.specs.Frame.{Logged, journal_bytes}
use Rattle.journal.specs.Header.{header_bytes, seed_of}
use Rattle.journal_steps.specs.Progress.{IsReady, header_from}
use Rattle.journal_steps.specs.World.{Segment, World, frames_in, journal_name, new_file}
use Rattle.journal_steps.specs.declared.step.Ahead.{Ahead}
use Rattle.journal_steps.specs.declared.step.Ahead.TheVariants.{NotWanted, Wanted, Making, Made, Keeping, Kept}

-- ---- frames and files

-- Frames in turn, the first with this number. Each says of earlier commits alone, and of durable ones, that they are durable.
abbrev pub AreNumbered : ℕ → ℕ → List Logged → Type 0
AreNumbered next durable [] = Unit {0}
AreNumbered next durable (l ∷ ls) =
    (l.number ≡ next) × (l.synced < next) × (l.synced ≤ durable) × (length l.payload < 2 ^ 32) × AreNumbered (next + 1) durable ls

-- the bytes of a file of frames: a header and the frames, or no byte
abbrev pub file_bytes : ℕ → ℕ → ℕ → List Logged → List ℕ
file_bytes salt store base [] = []
file_bytes salt store base (l ∷ ls) = header_bytes (header_from salt store base) ++ journal_bytes (seed_of salt) (l ∷ ls)

-- Files in turn, the first with this number and behind this commit, each with its header and frames. All of it is durable, and so is the
-- file's name.
abbrev pub AreClosed : Disk → ℕ → ℕ → ℕ → ℕ → ℕ → List Segment → Type 0
AreClosed d salt store bound seq base [] = Unit {0}
AreClosed d salt store bound seq base (s ∷ ss) =
    (s.file < bound) × ((d.files s.file).bytes ≡ file_bytes salt store base s.logged)
    × ((d.files s.file).durable ≡ length (d.files s.file).bytes)
    × ((x : Option ℕ) → MayName d (journal_name seq) x → x ≡ Some s.file)
    × AreClosed d salt store bound (seq + 1) (base + length s.logged) ss

-- where the frames of a file end that are behind the commit `base`, up to another commit: behind so many bytes after the header
abbrev pub frames_end : ℕ → ℕ → ℕ → List Logged → ℕ
frames_end salt base upto logged = length (journal_bytes (seed_of salt) (take (upto - base) logged))

-- ---- the next file

-- it comes after the file that is written, and has no bytes
pub record IsNext (d : Disk) (file next : ℕ) : Type 0 where
  pub order : file < next
  pub below : next < d.count
  pub empty : d.files next ≡ new_file

-- a name has no file, or an empty one
abbrev pub IsNoneOrEmpty : Disk → ℕ → Option ℕ → Type 0
IsNoneOrEmpty d file x = (x ≡ None) ⊎ ((next : ℕ) × (x ≡ Some next) × IsNext d file next)

abbrev pub IsMade : Disk → ℕ → ℕ → ℕ → Type 0
IsMade d seq file next = (named (journal_name (seq + 1)) d.links ≡ Some next) × IsNext d file next

-- the sync of the folder that is under way began once it was there
abbrev pub IsAsked : Disk → ℕ → ℕ → ℕ → Type 0
IsAsked d seq next names_at = (k : ℕ) → k ≤ length d.links - names_at → named (journal_name (seq + 1)) (drop k d.links) ≡ Some next

-- its name is durable
abbrev pub IsKept : Disk → ℕ → ℕ → Type 0
IsKept d seq next = (x : Option ℕ) → MayName d (journal_name (seq + 1)) x → x ≡ Some next

abbrev pub IsComing : Ahead → Disk → ℕ → ℕ → ℕ → ℕ → Type 0
IsComing NotWanted d seq file next names_at = Unit {0}
IsComing Wanted d seq file next names_at = Unit {0}
IsComing Making d seq file next names_at = IsMade d seq file next
IsComing Made d seq file next names_at = IsMade d seq file next
IsComing Keeping d seq file next names_at = IsMade d seq file next × IsAsked d seq next names_at
IsComing Kept d seq file next names_at = IsMade d seq file next × IsKept d seq next

-- ---- the whole

-- The frames are in turn over all files. The files that aren't written any more are durable; the file that is written has a beginning of
-- its bytes, and the frames up to the durable commit are durable in it. Its name is durable, and no name is behind the next file's.
pub record Core (d : Disk) (salt store before first : ℕ) (closed : List Segment) (file : ℕ) (logged : List Logged)
    (seq base taken durable : ℕ) : Type 0 where
  pub numbered : AreNumbered (before + 1) durable (frames_in closed ++ logged)
  pub taken_is : taken ≡ before + length (frames_in closed ++ logged)
  pub base_is : base ≡ before + length (frames_in closed)
  pub base_durable : base ≤ durable
  pub durable_taken : durable ≤ taken
  pub seq_is : seq ≡ first + length closed
  pub are_closed : AreClosed d salt store file first before closed
  pub part : ℕ
  pub bytes : (d.files file).bytes ≡ take part (file_bytes salt store base logged)
  pub kept : frames_end salt base durable logged ≤ (d.files file).durable - 36
  pub no_more : (d.files file).durable ≤ length (d.files file).bytes
  pub name : (x : Option ℕ) → MayName d (journal_name seq) x → x ≡ Some file
  pub next : (x : Option ℕ) → MayName d (journal_name (seq + 1)) x → IsNoneOrEmpty d file x
  pub beyond : (n : ℕ) (x : Option ℕ) → seq + 1 < n → MayName d (journal_name n) x → x ≡ None
  pub below : file < d.count
  pub fresh : (i : ℕ) → d.count ≤ i → d.files i ≡ new_file

-- unless a write or a sync has failed, the file that is written has all of its bytes
abbrev pub IsWhole : Bool → File → List ℕ → Type 0
IsWhole true f bytes = Unit {0}
IsWhole false f bytes = (f.bytes ≡ bytes) × (f.sound ≡ true)

-- the sync under way began once the frames were there that it makes durable
abbrev pub IsSyncing : Option ℕ → ℕ → ℕ → ℕ → ℕ → ℕ → List Logged → Type 0
IsSyncing None salt base durable written at logged = Unit {0}
IsSyncing (Some upto) salt base durable written at logged =
    (durable < upto) × (upto ≤ written) × (frames_end salt base upto logged ≤ at - 36)

pub record Holds (w : World) : Type 0 where
  pub ready : IsReady w.progress
  pub core :
      Core w.disk w.progress.salt w.progress.store w.before w.progress.first w.closed w.file w.logged w.progress.seq w.progress.base
      w.progress.taken w.progress.durable
  pub durable_written : w.progress.durable ≤ w.progress.written
  pub written_taken : w.progress.written ≤ w.progress.taken
  pub whole :
      IsWhole w.progress.broken (w.disk.files w.file)
      (file_bytes w.progress.salt w.progress.store w.progress.base w.logged)
  -- the append under way began once the frames before it were there
  pub appending :
      w.progress.written < w.progress.taken
      → frames_end w.progress.salt w.progress.base w.progress.written w.logged ≤ w.append_at - 36
  pub syncing :
      IsSyncing w.progress.syncing w.progress.salt w.progress.base w.progress.durable w.progress.written w.sync_at w.logged
  pub coming : IsComing w.progress.ahead w.disk w.progress.seq w.file w.next_file w.names_at
