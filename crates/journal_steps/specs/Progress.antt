-- How far a journal has come, which step is due in each lane, and what each event makes of it.
use Rattle.std.specs.Prelude.{ℕ, ◌+◌, ◌-◌, ◌<◌, ◌≤◌, ◌^◌, ◌==◌, nat_lt, nat_le, Bool, true, false, if◌then◌else◌, Option, Some, None, List, [], ◌∷◌, ◌++◌, length, take}
use Rattle.journal.specs.Header.{HeaderFields, IsHeader, seed_of}
use Rattle.journal_steps.specs.Batch.{BatchFields, HaveSizes}
use Rattle.journal_steps.specs.declared.step.Ahead.{Ahead}
use Rattle.journal_steps.specs.declared.step.Ahead.TheVariants.{NotWanted, Wanted, Making, Made, Keeping, Kept}
use Rattle.journal_steps.specs.declared.step.Goal.{Goal}
use Rattle.journal_steps.specs.declared.step.Goal.TheVariants.{Written, Durable}
use Rattle.journal_steps.specs.declared.step.Lane.{Lane}
use Rattle.journal_steps.specs.declared.step.Lane.TheVariants as lane
use Rattle.journal_steps.specs.declared.step.Step.{Step}
use Rattle.journal_steps.specs.declared.step.Step.TheVariants.{Append, Sync, Create, SyncNames}

-- The salt and the store's name in the headers. The numbers of the newest commit that was handed out in a batch, of the newest whose append
-- is done, and of the newest that is durable: the first two differ while an append is under way. The number of the commit before the first
-- frame of the file that is written, the number of that file, and that of the oldest file. The newest commit that the sync under way makes
-- durable. How far the next file is, whether a write or a sync has failed, and the payloads that wait.
pub record Progress : Type 0 where
  pub salt : ℕ
  pub store : ℕ
  pub taken : ℕ
  pub written : ℕ
  pub durable : ℕ
  pub base : ℕ
  pub seq : ℕ
  pub first : ℕ
  pub syncing : Option ℕ
  pub ahead : Ahead
  pub broken : Bool
  pub waiting : List (List ℕ)

abbrev pub header_from : ℕ → ℕ → ℕ → HeaderFields
header_from salt store base = record { salt = salt; store = store; base = base }

-- ---- what is due

-- the header of the file that is written, where it has no commit yet
abbrev pub header_due : Progress → Option HeaderFields
header_due p = if p.taken == p.base then Some (header_from p.salt p.store p.base) else None

-- of waiting payloads: one batch of them all
abbrev pub batch_of : List (List ℕ) → Progress → BatchFields
batch_of payloads p =
    record {
      seq = p.seq;
      header = header_due p;
      seed = seed_of p.salt;
      first = p.taken + 1;
      durable = p.durable;
      payloads = payloads;
    }

abbrev pub due_batch : List (List ℕ) → Progress → Option Step
due_batch [] p = None
due_batch (w ∷ ws) p = Some (Append (batch_of (w ∷ ws) p))

abbrev pub is_kept : Ahead → Bool
is_kept NotWanted = false
is_kept Wanted = false
is_kept Making = false
is_kept Made = false
is_kept Keeping = false
is_kept Kept = true

-- An append: what waits, while no other append is under way. Once the next file's name is durable, the commits wait for that file.
abbrev pub due_append : Progress → Option Step
due_append p =
    if p.broken then None
    else if is_kept p.ahead then None
    else if p.written == p.taken then due_batch p.waiting p
    else None

-- a sync, while no other sync is under way, where a commit that is written isn't durable
abbrev pub due_sync_by : Option ℕ → Progress → Option Step
due_sync_by (Some upto) p = None
due_sync_by None p = if p.broken then None else if nat_lt p.durable p.written then Some (Sync p.seq) else None

-- the next file is made, and then the names in the folder are synced
abbrev pub due_next_by : Ahead → Progress → Option Step
due_next_by NotWanted p = None
due_next_by Wanted p = if p.broken then None else Some (Create (p.seq + 1))
due_next_by Making p = None
due_next_by Made p = if p.broken then None else Some SyncNames
due_next_by Keeping p = None
due_next_by Kept p = None

abbrev pub due : Lane → Progress → Option Step
due lane.Append p = due_append p
due lane.Sync p = due_sync_by p.syncing p
due lane.Next p = due_next_by p.ahead p

-- Where the next step of a commit is due, or under way. To be written it needs an append, and where the journal waits to go on in the next
-- file, first a sync of this one. To be durable it needs a sync of what is written, and if that is all durable, an append.
abbrev pub lane_toward : Goal → Progress → Lane
lane_toward Written p = if is_kept p.ahead then lane.Sync else lane.Append
lane_toward Durable p = if nat_lt p.durable p.written then lane.Sync else lane.Append

-- a step has begun: a sync is of what is written then
abbrev pub began : Option Step → Progress → Progress
began None p = p
began (Some (Append batch)) p = record p { taken = p.taken + length batch.payloads; waiting = [] }
began (Some (Sync seq)) p = record p { syncing = Some p.written }
began (Some (Create seq)) p = record p { ahead = Making }
began (Some SyncNames) p = record p { ahead = Keeping }

-- ---- what is done

-- whether the journal goes on in the next file: its name is durable, and so is each commit that was handed out
abbrev pub turns : Progress → Bool
turns p = if is_kept p.ahead then (if p.broken then false else p.durable == p.taken) else false

abbrev pub turned : Progress → Progress
turned p = if turns p then record p { seq = p.seq + 1; base = p.taken; ahead = NotWanted } else p

-- a sync makes durable what was written when it began; after a failure nothing more is acknowledged
abbrev pub synced_by : Option ℕ → Progress → Progress
synced_by None p = p
synced_by (Some upto) p = record p { syncing = None; durable = if p.broken then p.durable else upto }

abbrev pub prepared_by : Ahead → Progress → Progress
prepared_by NotWanted p = p
prepared_by Wanted p = p
prepared_by Making p = record p { ahead = Made }
prepared_by Made p = p
prepared_by Keeping p = record p { ahead = Kept }
prepared_by Kept p = p

abbrev pub finished : Lane → Progress → Progress
finished lane.Append p = record p { written = if p.broken then p.written else p.taken }
finished lane.Sync p = synced_by p.syncing p
finished lane.Next p = prepared_by p.ahead p

-- the step under way in a lane is done
abbrev pub ended : Lane → Progress → Progress
ended l p = turned (finished l p)

-- ---- what has failed

abbrev pub unsynced_by : Option ℕ → Progress → Progress
unsynced_by None p = p
unsynced_by (Some upto) p = record p { syncing = None; broken = true }

-- there is no next file yet: it is wanted again some day
abbrev pub unprepared_by : Ahead → Progress → Progress
unprepared_by NotWanted p = p
unprepared_by Wanted p = p
unprepared_by Making p = record p { ahead = NotWanted }
unprepared_by Made p = p
unprepared_by Keeping p = record p { ahead = NotWanted }
unprepared_by Kept p = p

-- The step under way in a lane has failed. After a write or a sync nothing is due any more, and nothing more becomes durable.
abbrev pub broken_by : Lane → Progress → Progress
broken_by lane.Append p = if p.written == p.taken then p else record p { broken = true }
broken_by lane.Sync p = unsynced_by p.syncing p
broken_by lane.Next p = unprepared_by p.ahead p

-- ---- what others want

-- the number of the newest commit
abbrev pub newest : Progress → ℕ
newest p = p.taken + length p.waiting

-- whether a commit with a payload may be added: the payload's length has a spelling, and the commit has a number
abbrev pub may_add : List ℕ → Progress → Bool
may_add payload p = if nat_lt (length payload) (2 ^ 32) then nat_lt (newest p + 1) (2 ^ 63) else false

abbrev pub added : List ℕ → Progress → Progress
added payload p = if may_add payload p then record p { waiting = p.waiting ++ payload ∷ [] } else p

-- the newest commit is taken back, where it waits
abbrev pub withdrawn : Progress → Progress
withdrawn p = record p { waiting = take (length p.waiting - 1) p.waiting }

-- no step is due any more, and no commit becomes durable
abbrev pub stopped : Progress → Progress
stopped p = record p { broken = true }

-- the journal is to go on in a new file, where the file that is written has a commit
abbrev pub wanted_by : Ahead → Progress → Progress
wanted_by NotWanted p =
    if p.base == p.taken then p else if nat_lt p.seq (2 ^ 63) then record p { ahead = Wanted } else p
wanted_by Wanted p = p
wanted_by Making p = p
wanted_by Made p = p
wanted_by Keeping p = p
wanted_by Kept p = p

abbrev pub wanted : Progress → Progress
wanted p = wanted_by p.ahead p

-- the oldest file, where another one is written
abbrev pub oldest : Progress → Option ℕ
oldest p = if nat_lt p.first p.seq then Some p.first else None

abbrev pub removed : Option ℕ → Progress → Progress
removed None p = p
removed (Some seq) p = record p { first = seq + 1 }

-- ---- what holds of each value

-- how many files more than this one may come to be
abbrev pub coming : Ahead → ℕ
coming NotWanted = 0
coming Wanted = 1
coming Making = 1
coming Made = 1
coming Keeping = 1
coming Kept = 1

pub record IsReady (p : Progress) : Type 0 where
  pub header : IsHeader (header_from p.salt p.store p.base)
  pub numbers : p.taken + length p.waiting < 2 ^ 63
  pub sizes : HaveSizes p.waiting
  pub files : p.seq + coming p.ahead ≤ 2 ^ 63

-- a journal of which nothing is under way, whose commits up to this one are durable
abbrev pub resting : ℕ → ℕ → ℕ → ℕ → ℕ → ℕ → Progress
resting salt store base newest first seq =
    record {
      salt = salt;
      store = store;
      taken = newest;
      written = newest;
      durable = newest;
      base = base;
      seq = seq;
      first = first;
      syncing = None;
      ahead = NotWanted;
      broken = false;
      waiting = [];
    }

-- what an opening starts from, where the numbers are in their order and in their range
abbrev pub reopened : HeaderFields → ℕ → ℕ → ℕ → Option Progress
reopened header newest first seq =
    if nat_lt newest header.base then None
    else if nat_le (2 ^ 63) newest then None
    else if nat_lt (2 ^ 63) seq then None
    else if nat_lt seq first then None
    else Some (resting header.salt header.store header.base newest first seq)
