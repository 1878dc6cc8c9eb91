-- What a journal's steps keep, for every order of events and wherever a crash falls.
use Rattle.std.specs.Prelude.{◌≡◌, ◌≢◌, ◌≤◌, ◌<◌, ◌⊎◌, ◌^◌, ℕ, suc, ◌+◌, ◌-◌, false, IsErr, Some, None, List, [], ◌∷◌, ◌++◌, length, take}
use Rattle.disk.specs.Disk.{Disk, IsAtRest, MayLeave, named}
use Rattle.journal.specs.Crash.{IsLeft, ReadsAsWholeFrames, bytes_after, whole_in}
use Rattle.journal.specs.Frame.{AreLogged, Logged, journal_bytes}
use Rattle.journal.specs.Header.{HeaderFields, IsHeader, header_bytes, header_in, seed_of}
use Rattle.journal.specs.Reading.{frame_at, has_witness}
use Rattle.journal_steps.specs.Progress.{Progress, added, began, broken_by, due, ended, header_from, oldest, removed, stopped, wanted, withdrawn}
use Rattle.journal_steps.specs.declared.step.Ahead.{Ahead}
use Rattle.journal_steps.specs.declared.step.Ahead.TheVariants.{NotWanted, Wanted}
use Rattle.journal_steps.specs.declared.step.Lane.TheVariants as lane
use Rattle.journal_steps.specs.declared.step.Lane.{Lane}
use Rattle.journal_steps.specs.Sound.{Holds, file_bytes}
use Rattle.journal_steps.specs.World.{Add, AllBeside, Begin, Done, Event, Fail, Remove, Segment, Stop, Want, Withdraw, World, all_logged, disk_by, frames_in, happens, joined, journal_name, new_file, new_world, reopened_world, run}

-- the premise on a header's check: the bytes of a file begin with the header that was written, or read as no header
abbrev pub IsNoHeaderByChance : HeaderFields → List ℕ → Type 0
IsNoHeaderByChance header bytes = (take 36 bytes ≡ header_bytes header) ⊎ IsErr (header_in bytes)

-- the premise on frames' checks: bytes that a crash left are no frame by chance, and no head by chance tells of a frame that never was
-- durable
pub record IsNoChance (seed next : ℕ) (logged : List Logged) (size : ℕ) (other bytes : List ℕ) : Type 0 where
  pub torn : other ≢ [] → frame_at seed (bytes_after seed size logged bytes) ≡ None
  pub silent : has_witness seed (next + whole_in seed size logged) (bytes_after seed size logged bytes) ≡ false

-- the bytes of the frames that were durable, maybe more, and maybe others
pub record Survives (seed next : ℕ) (logged : List Logged) (durable : ℕ) (bytes : List ℕ) : Type 0 where
  pub few : durable ≤ length logged
  pub size : ℕ
  pub other : List ℕ
  pub kept : length (journal_bytes seed (take durable logged)) ≤ size
  pub spelt : bytes ≡ take size (journal_bytes seed logged) ++ other

-- what the files of a journal read as after a crash
abbrev pub frames_left : World → Disk → ℕ → List ℕ
frames_left w left more = joined left w.progress.first (length w.closed + suc (suc (suc more)))

-- The files in turn, from the oldest on, have the frames of each commit up to the durable one, and maybe of the next ones. They read as
-- frames in turn, and the ending is no fault.
abbrev pub ReadsAfterACrash : World → Disk → ℕ → Type 0
ReadsAfterACrash w left more =
    let seed = seed_of w.progress.salt in
    let durable = w.progress.durable - w.before in
    AreLogged (w.before + 1) (all_logged w) × (w.progress.taken ≡ w.before + length (all_logged w))
    × (w.before ≤ w.progress.durable)
    × ((survives : Survives seed (w.before + 1) (all_logged w) durable (frames_left w left more))
    × (IsNoChance seed (w.before + 1) (all_logged w) survives.size survives.other (frames_left w left more)
    → IsLeft seed (w.before + 1) (all_logged w) durable (frames_left w left more)
    × ReadsAsWholeFrames seed (w.before + 1) (all_logged w) durable (frames_left w left more)))

-- Whatever happens, in whatever order, whatever others do beside it, and wherever a crash falls: what holds of a journal on a disk holds
-- again, and after the crash each commit is read that is durable then. Those are at least the commits that were durable before, so each
-- commit that was acknowledged.
abbrev pub TheJournalSurvives : Type 0
TheJournalSurvives =
    (w : World) (events : List Event) → Holds w → AllBeside events w
    → let v = run events w in
    Holds v × (w.progress.durable ≤ v.progress.durable) × ((left : Disk) (more : ℕ) → MayLeave v.disk left
    → IsNoHeaderByChance (header_from v.progress.salt v.progress.store v.progress.base) (left.files v.file).bytes
    → ReadsAfterACrash v left more)

-- ---- where it begins

-- a new journal, whose file has no bytes
abbrev pub ANewJournalHolds : Type 0
ANewJournalHolds = (header : HeaderFields) (seq : ℕ) → IsHeader header → seq ≤ 2 ^ 63 → Holds (new_world header seq)

-- files in turn as they are read, each with its header and frames
abbrev pub AreFiles : Disk → ℕ → ℕ → ℕ → ℕ → ℕ → List Segment → Type 0
AreFiles d salt store bound seq base [] = Unit {0}
AreFiles d salt store bound seq base (s ∷ ss) =
    (s.file < bound) × ((d.files s.file).bytes ≡ file_bytes salt store base s.logged) × (named (journal_name seq) d.links ≡ Some s.file)
    × AreFiles d salt store bound (seq + 1) (base + length s.logged) ss

-- A disk at rest has a journal in files from `first` on, whose last one has these frames behind its header, and nothing else.
pub record IsReopened (d : Disk) (salt store before first : ℕ) (closed : List Segment) (file : ℕ) (logged : List Logged) : Type 0 where
  pub rest : IsAtRest d
  pub files : AreFiles d salt store file first before closed
  pub bytes : (d.files file).bytes ≡ file_bytes salt store (before + length (frames_in closed)) logged
  pub name : named (journal_name (first + length closed)) d.links ≡ Some file
  pub last : (n : ℕ) → first + length closed < n → named (journal_name n) d.links ≡ None
  pub below : file < d.count
  pub fresh : (i : ℕ) → d.count ≤ i → d.files i ≡ new_file

-- After a crash the journal goes on behind the first k frames, where these are read and the durable ones are among them: once the files
-- are at rest with those frames alone, what holds of a journal on a disk holds again.
abbrev pub TheJournalGoesOn : Type 0
TheJournalGoesOn =
    (w : World) (k : ℕ) (d : Disk) (closed : List Segment) (file : ℕ) (logged : List Logged) → Holds w
    → w.progress.durable ≤ w.before + k → k ≤ length (all_logged w) → frames_in closed ++ logged ≡ take k (all_logged w)
    → w.progress.first + length closed ≤ 2 ^ 63
    → IsReopened d w.progress.salt w.progress.store w.before w.progress.first closed file logged
    → Holds (reopened_world d w.progress.salt w.progress.store w.before w.progress.first closed file logged)

-- ---- the world and the calls

-- What the world makes of an event is what the calls are proved to make of it, and its disk changes by the step that is told.
abbrev pub TheWorldDoesWhatIsTold : Type 0
TheWorldDoesWhatIsTold =
    (w : World) (l : Lane) (taken : ℕ) (payload : List ℕ) → Holds w
    → ((happens w (Add payload)).progress ≡ added payload w.progress)
    × ((happens w Withdraw).progress ≡ withdrawn w.progress)
    × ((happens w Stop).progress ≡ stopped w.progress)
    × ((happens w Want).progress ≡ wanted w.progress)
    × ((happens w (Begin l)).progress ≡ began (due l w.progress) w.progress)
    × ((happens w (Begin l)).disk ≡ disk_by (due l w.progress) w.file w.disk)
    × ((happens w (Done l)).progress ≡ ended l w.progress)
    × ((happens w (Fail l taken)).progress ≡ broken_by l w.progress)
    × ((happens w Remove).progress ≡ removed (oldest w.progress) w.progress)

-- ---- nothing is left behind

-- a journal of which nothing is under way, and nothing has failed
abbrev pub idle : ℕ → ℕ → ℕ → ℕ → ℕ → ℕ → ℕ → Ahead → List (List ℕ) → Progress
idle salt store taken durable base seq first ahead waiting =
    record {
      salt = salt;
      store = store;
      taken = taken;
      written = taken;
      durable = durable;
      base = base;
      seq = seq;
      first = first;
      syncing = None;
      ahead = ahead;
      broken = false;
      waiting = waiting;
    }

-- what is due in a lane begins, and is done
abbrev pub stepped : Lane → Progress → Progress
stepped l p = ended l (began (due l p) p)

-- all commits are durable, and nothing is under way
pub record AllDurable (newest : ℕ) (p : Progress) : Type 0 where
  pub durable : p.durable ≡ newest
  pub taken : p.taken ≡ newest
  pub waiting : p.waiting ≡ []
  pub syncing : p.syncing ≡ None

-- Where no new file is wanted, an append and a sync that don't fail make each commit durable that was added.
abbrev pub TwoStepsMakeAllDurable : Type 0
TwoStepsMakeAllDurable =
    (salt store taken durable base seq first : ℕ) (waiting : List (List ℕ)) → durable ≤ taken
    → AllDurable (taken + length waiting)
    (stepped lane.Sync (stepped lane.Append (idle salt store taken durable base seq first NotWanted waiting)))

-- the journal goes on in the next file, with the commits that wait
pub record GoesOn (before newest : ℕ) (commits : List (List ℕ)) (p : Progress) : Type 0 where
  pub seq : p.seq ≡ before + 1
  pub base : p.base ≡ newest
  pub durable : p.durable ≡ newest
  pub ahead : p.ahead ≡ NotWanted
  pub waiting : p.waiting ≡ commits

-- Where one is wanted, its creation, a sync of the folder and a sync that don't fail make it the file that is written.
abbrev pub ThreeStepsGoOn : Type 0
ThreeStepsGoOn =
    (salt store taken durable base seq first : ℕ) (waiting : List (List ℕ)) → durable ≤ taken
    → GoesOn seq taken waiting
    (stepped lane.Sync (stepped lane.Next (stepped lane.Next (idle salt store taken durable base seq first Wanted waiting))))
