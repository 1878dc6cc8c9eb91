-- A journal on a disk: what each event makes of both, and what is read after a crash.
use Rattle.std.specs.Prelude.{◌≡◌, ◌≤◌, ◌<◌, ◌⊎◌, ℕ, zero, suc, ◌+◌, ◌-◌, ◌*◌, ◌==◌, if◌then◌else◌, true, Option, Some, None, Result, Ok, Err, List, [], ◌∷◌, ◌++◌, length, drop}
use Rattle.disk.specs.Disk.{Disk, File, MayName, Append, Sync, Create, SyncNames, Unlink, begun, done, failed, linked}
use Rattle.disk.specs.Disk.{named}
use Rattle.journal.specs.Frame.{Logged}
use Rattle.journal.specs.Header.{HeaderFields, header_in}
use Rattle.journal.specs.declared.fault.HeaderFault.{HeaderFault}
use Rattle.journal_steps.specs.Batch.{batch_bytes, batch_frames}
use Rattle.journal_steps.specs.Progress.{Progress, added, began, broken_by, due, finished, oldest, removed, resting, stopped, turned, turns, wanted, withdrawn}
use Rattle.journal_steps.specs.declared.step.Ahead.{Ahead}
use Rattle.journal_steps.specs.declared.step.Ahead.TheVariants.{NotWanted, Wanted, Making, Made, Keeping, Kept}
use Rattle.journal_steps.specs.declared.step.Lane.{Lane}
use Rattle.journal_steps.specs.declared.step.Lane.TheVariants as lane
use Rattle.journal_steps.specs.declared.step.Step.{Step}
use Rattle.journal_steps.specs.declared.step.Step.TheVariants as step

-- the names of a folder as numbers: those of a journal's files are even and above 0
abbrev pub journal_name : ℕ → ℕ
journal_name seq = 2 * seq + 2

-- a file of a journal that isn't written any more, and its frames
pub record Segment : Type 0 where
  pub file : ℕ
  pub logged : List Logged

-- A disk, and how far the journal on it has come. The number of the commit before the oldest file's first frame, and the files that aren't
-- written any more. The file that is written, and its frames, those of the append under way among them. The file that was made last; and
-- what was there when the last append, the last sync and the last sync of the folder began.
pub record World : Type 0 where
  pub disk : Disk
  pub progress : Progress
  pub before : ℕ
  pub closed : List Segment
  pub file : ℕ
  pub logged : List Logged
  pub next_file : ℕ
  pub append_at : ℕ
  pub sync_at : ℕ
  pub names_at : ℕ

abbrev pub frames_in : List Segment → List Logged
frames_in [] = []
frames_in (s ∷ ss) = s.logged ++ frames_in ss

-- all frames that were handed out, but for those of files that were removed
abbrev pub all_logged : World → List Logged
all_logged w = frames_in w.closed ++ w.logged

-- ---- events

pub data Event : Type 0 where
  -- a commit is added
  Add : (payload : List ℕ) → Event
  -- the newest commit is taken back, where it waits
  Withdraw : Event
  -- no step is due any more
  Stop : Event
  -- the journal is to go on in a new file
  Want : Event
  -- what is due in a lane begins
  Begin : (l : Lane) → Event
  -- what is under way in a lane is done
  Done : (l : Lane) → Event
  -- or it has failed: so many bytes of a write were taken, and a file whose creation failed is there unless that number is 0
  Fail : (l : Lane) (taken : ℕ) → Event
  -- the oldest file is removed
  Remove : Event
  -- others have made this of the disk: they write images and manifests beside the journal
  Beside : (disk : Disk) → Event

-- how many bytes of the file that is written are surely there: those of an append under way may not be
abbrev pub there : World → ℕ
there w = if w.progress.written == w.progress.taken then length (w.disk.files w.file).bytes else w.append_at

-- the step that is due is begun on the disk
abbrev pub begins : Option Step → World → World
begins None w = w
begins (Some (step.Append batch)) w =
    record w {
      disk = begun (Append w.file (batch_bytes batch)) w.disk;
      progress = began (Some (step.Append batch)) w.progress;
      logged = w.logged ++ batch_frames batch;
      append_at = length (w.disk.files w.file).bytes;
    }
begins (Some (step.Sync seq)) w =
    record w { progress = began (Some (step.Sync seq)) w.progress; sync_at = there w }
begins (Some (step.Create seq)) w =
    record w {
      disk = begun (Create (journal_name seq)) w.disk;
      progress = began (Some (step.Create seq)) w.progress;
      next_file = w.disk.count;
    }
begins (Some step.SyncNames) w =
    record w { progress = began (Some step.SyncNames) w.progress; names_at = length w.disk.links }

-- what is done in a lane changes the disk where it makes something durable
abbrev pub synced_disk : Option ℕ → World → Disk
synced_disk None w = w.disk
synced_disk (Some upto) w = done (Sync w.file w.sync_at) w.disk

abbrev pub prepared_disk : Ahead → World → Disk
prepared_disk NotWanted w = w.disk
prepared_disk Wanted w = w.disk
prepared_disk Making w = w.disk
prepared_disk Made w = w.disk
prepared_disk Keeping w = done (SyncNames w.names_at) w.disk
prepared_disk Kept w = w.disk

abbrev pub done_disk : Lane → World → Disk
done_disk lane.Append w = w.disk
done_disk lane.Sync w = synced_disk w.progress.syncing w
done_disk lane.Next w = prepared_disk w.progress.ahead w

-- the journal goes on in the next file
abbrev pub moved : World → World
moved w =
    record w {
      progress = turned w.progress;
      closed = w.closed ++ record { file = w.file; logged = w.logged } ∷ [];
      file = w.next_file;
      logged = [];
    }

abbrev pub closes : World → World
closes w = if turns w.progress then moved w else w

abbrev pub unsynced_disk : Option ℕ → World → Disk
unsynced_disk None w = w.disk
unsynced_disk (Some upto) w = failed (Sync w.file w.sync_at) 0 w.disk

-- where the creation of a file has failed its name is there or not
abbrev pub unprepared_disk : Ahead → ℕ → World → Disk
unprepared_disk NotWanted taken w = w.disk
unprepared_disk Wanted taken w = w.disk
unprepared_disk Making taken w = if taken == 0 then linked (journal_name (w.progress.seq + 1)) None w.disk else w.disk
unprepared_disk Made taken w = w.disk
unprepared_disk Keeping taken w = w.disk
unprepared_disk Kept taken w = w.disk

abbrev pub failed_disk : Lane → ℕ → World → Disk
failed_disk lane.Append taken w =
    if w.progress.written == w.progress.taken then w.disk
    else failed (Append w.file (drop w.append_at (w.disk.files w.file).bytes)) taken w.disk
failed_disk lane.Sync taken w = unsynced_disk w.progress.syncing w
failed_disk lane.Next taken w = unprepared_disk w.progress.ahead taken w

abbrev pub removes : Option ℕ → List Segment → World → World
removes None ss w = w
removes (Some seq) [] w = w
removes (Some seq) (s ∷ ss) w =
    record w {
      disk = begun (Unlink (journal_name seq)) w.disk;
      progress = removed (Some seq) w.progress;
      before = w.before + length s.logged;
      closed = ss;
    }

abbrev pub happens : World → Event → World
happens w (Add payload) = record w { progress = added payload w.progress }
happens w Withdraw = record w { progress = withdrawn w.progress }
happens w Stop = record w { progress = stopped w.progress }
happens w Want = record w { progress = wanted w.progress }
happens w (Begin l) = begins (due l w.progress) w
happens w (Done l) = closes (record w { disk = done_disk l w; progress = finished l w.progress })
happens w (Fail l taken) = record w { disk = failed_disk l taken w; progress = broken_by l w.progress }
happens w Remove = removes (oldest w.progress) w.closed w
happens w (Beside disk) = record w { disk = disk }

abbrev pub run : List Event → World → World
run [] w = w
run (e ∷ es) w = run es (happens w e)

-- ---- what others do to the disk

-- a file as it is made
abbrev pub new_file : File
new_file = record { bytes = []; durable = 0; sound = true }

abbrev pub IsFileOf : List Segment → ℕ → Type 0
IsFileOf [] i = ⊥
IsFileOf (s ∷ ss) i = (i ≡ s.file) ⊎ IsFileOf ss i

-- a file of the journal: one with frames, the one that was made last, or one that the next file's name may have
abbrev pub IsMine : World → ℕ → Type 0
IsMine w i =
    (i ≡ w.file) ⊎ ((i ≡ w.next_file) ⊎ (MayName w.disk (journal_name (w.progress.seq + 1)) (Some i) ⊎ IsFileOf w.closed i))

-- Others leave the journal's files and names alone, and make no fewer files.
pub record IsBeside (w : World) (e : Disk) : Type 0 where
  pub files : (i : ℕ) → IsMine w i → i < w.disk.count → e.files i ≡ w.disk.files i
  pub count : w.disk.count ≤ e.count
  pub fresh : (i : ℕ) → e.count ≤ i → e.files i ≡ new_file
  pub names :
      (seq : ℕ) (x : Option ℕ) → w.progress.first ≤ seq → MayName e (journal_name seq) x → MayName w.disk (journal_name seq) x
  pub now : (seq : ℕ) → w.progress.first ≤ seq → named (journal_name seq) e.links ≡ named (journal_name seq) w.disk.links
  -- also of what a sync of the folder was begun for
  pub asked :
      (seq : ℕ) (x : Option ℕ) → w.progress.first ≤ seq
      → ((k : ℕ) → k ≤ length w.disk.links - w.names_at → named (journal_name seq) (drop k w.disk.links) ≡ x)
      → (k : ℕ) → k ≤ length e.links - w.names_at → named (journal_name seq) (drop k e.links) ≡ x

abbrev pub IsBesideBy : World → Event → Type 0
IsBesideBy w (Add payload) = Unit {0}
IsBesideBy w Withdraw = Unit {0}
IsBesideBy w Stop = Unit {0}
IsBesideBy w Want = Unit {0}
IsBesideBy w (Begin l) = Unit {0}
IsBesideBy w (Done l) = Unit {0}
IsBesideBy w (Fail l taken) = Unit {0}
IsBesideBy w Remove = Unit {0}
IsBesideBy w (Beside disk) = IsBeside w disk

-- what others do, they do beside the journal
abbrev pub AllBeside : List Event → World → Type 0
AllBeside [] w = Unit {0}
AllBeside (e ∷ es) w = IsBesideBy w e × AllBeside es (happens w e)

-- ---- what is read

-- the frames of a file's bytes: what follows its header, or all of them where they have none
abbrev pub frames_behind : List ℕ → Result (HeaderFields × List ℕ) HeaderFault → List ℕ
frames_behind bytes (Ok found) = found.1
frames_behind bytes (Err fault) = bytes

abbrev pub stripped : List ℕ → List ℕ
stripped bytes = frames_behind bytes (header_in bytes)

abbrev pub stripped_then : Disk → Option ℕ → List ℕ → List ℕ
stripped_then d None rest = []
stripped_then d (Some i) rest = stripped (d.files i).bytes ++ rest

-- the frames of the journal's files in turn, from a number on, up to the first file that isn't there; of so many files at most
abbrev pub joined : Disk → ℕ → ℕ → List ℕ
joined d seq zero = []
joined d seq (suc most) = stripped_then d (named (journal_name seq) d.links) (joined d (seq + 1) most)

-- ---- a new journal

-- of a header, in the file of a number, whose name is durable
abbrev pub new_world : HeaderFields → ℕ → World
new_world header seq =
    record {
      disk = record { files = λ i. new_file; count = 1; links = record { name = journal_name seq; file = Some 0 } ∷ []; pending = 0 };
      progress = resting header.salt header.store header.base header.base seq seq;
      before = header.base;
      closed = [];
      file = 0;
      logged = [];
      next_file = 0;
      append_at = 0;
      sync_at = 0;
      names_at = 0;
    }

-- ---- a journal that is opened again

-- on a disk whose last files have these frames
abbrev pub reopened_world : Disk → ℕ → ℕ → ℕ → ℕ → List Segment → ℕ → List Logged → World
reopened_world d salt store before first closed file logged =
    let base = before + length (frames_in closed) in
    record {
      disk = d;
      progress = resting salt store base (base + length logged) first (first + length closed);
      before = before;
      closed = closed;
      file = file;
      logged = logged;
      next_file = 0;
      append_at = 0;
      sync_at = 0;
      names_at = 0;
    }

-- ---- the steps that are told are those that change the disk

abbrev pub disk_by : Option Step → ℕ → Disk → Disk
disk_by None file d = d
disk_by (Some (step.Append batch)) file d = begun (Append file (batch_bytes batch)) d
disk_by (Some (step.Sync seq)) file d = d
disk_by (Some (step.Create seq)) file d = begun (Create (journal_name seq)) d
disk_by (Some step.SyncNames) file d = d
