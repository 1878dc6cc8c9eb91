-- What contracts see of a session, and what a commit reply says of it.
use Rattle.std.specs.Prelude.{◌≡◌, ℕ, suc, ◌-◌, ◌≤◌, List, [], drop, slice_get, Option, Some, None}
use Rattle.std.specs.Option.{option_map}
use mathlib.Core.List.{IsPrefix}
use Rattle.model.specs.declared.write.CommitReply.{CommitReply}
use Rattle.model.specs.declared.write.CommitReply.TheVariants.{Committed, Conflict, TooOld, Full}
use Rattle.model.specs.declared.write.Write.{Write}
use Rattle.model.specs.declared.write.WriteReply.{WriteReply}
use Rattle.txn.specs.Txn.{Transaction, transaction_at, IsAnswered}
use Rattle.manager.specs.Managed.{Managed}
use Rattle.publishing.specs.declared.item.Item.{Item}
use Rattle.publishing.specs.Commits.{Commit, commit_of}
use Rattle.publishing.specs.Lists.{Opened, Known, all_commits, number_in, table_at, version_in, reply_at, IsBegun}

pub record Seat : Type 0 where
  pub client : ℕ
  -- how many commit replies it got
  pub count : ℕ
  -- the beginning of the published list that it has seen
  pub seen : List Item
  -- its transaction, where one is open
  pub txn : Option Transaction
  -- the list that it was told at its last commit reply, unless that was taken out since
  pub note : Option (List Item)

-- a session that was just made
abbrev pub new_seat : ℕ → Seat
new_seat client = record { client = client; count = 0; seen = []; txn = None; note = None }

-- the session with its transaction changed
abbrev pub with_txn : Seat → Transaction → Seat
with_txn s txn = record s { txn = Some txn }

-- a transaction that has just begun at all that was seen
abbrev pub begun_in : Managed → List Item → ℕ → Transaction
begun_in o list client = transaction_at (version_in o list) o.start.limit client []

-- a session's transaction began in what it has seen, and is its client's
abbrev pub IsOfSeat : Managed → ℕ → List Item → Option Transaction → Type 0
IsOfSeat o client seen (Some txn) = IsBegun o seen txn × (txn.client ≡ client)
IsOfSeat o client seen None = Unit {0}

-- a note is a beginning of what was seen
abbrev pub IsNote : Opened → List Item → Option Known → Type 0
IsNote opening seen (Some known) = (known.opening ≡ opening) × IsPrefix known.list seen
IsNote opening seen None = Unit {0}

abbrev pub note_in : Option Known → Option (List Item)
note_in note = option_map (λ known. known.list) note

-- a write of the open transaction was answered
abbrev pub HasWritten : Seat → Write → WriteReply → Seat → Type 0
HasWritten before write reply after =
    (txn : Transaction) × (next : Transaction) × (before.txn ≡ Some txn) × IsAnswered txn write reply next × (after ≡ with_txn before next)

-- ---- a commit reply

-- the number in it
abbrev pub number_of : CommitReply → ℕ
number_of (Committed n) = n
number_of (Conflict n) = n
number_of (TooOld n) = n
number_of (Full n) = n

-- the number of the commits before it
abbrev pub HasNumber : CommitReply → ℕ → Type 0
HasNumber (Committed n) before = n ≡ suc before
HasNumber (Conflict n) before = n ≡ before
HasNumber (TooOld n) before = n ≡ before
HasNumber (Full n) before = n ≡ before

-- what is committed stands at its number
abbrev pub StandsAt : Managed → List Item → Commit → CommitReply → Type 0
StandsAt o list commit (Committed n) = slice_get (all_commits o list) (n - suc o.start.base) ≡ Some commit
StandsAt o list commit (Conflict n) = Unit {0}
StandsAt o list commit (TooOld n) = Unit {0}
StandsAt o list commit (Full n) = Unit {0}

-- a session that had seen one list, and then another, got the reply to its transaction
pub record IsReplied (o : Managed) (before after : List Item) (txn : Transaction) (reply : CommitReply) : Type 0 where
  pub longer : IsPrefix before after
  -- its snapshot is of what it had seen
  pub begun : txn.begin ≤ number_in o before
  pub snapshot : txn.table ≡ table_at o after txn.begin
  -- the list that the manager held is no shorter, and begins what is then seen
  pub decided : List Item
  pub among : IsPrefix decided after
  pub caught_up : number_in o before ≤ number_in o decided
  -- and the reply is the one that is due there
  pub due : reply ≡ reply_at o decided txn
  pub numbered : HasNumber reply (number_in o decided)
  pub reached : number_of reply ≤ number_in o after
  pub stands : StandsAt o after (commit_of txn) reply

-- the same of a session's transaction, which was open
abbrev pub WasReplied : Managed → Seat → Seat → CommitReply → Type 0
WasReplied o before after reply = (txn : Transaction) × (before.txn ≡ Some txn) × IsReplied o before.seen after.seen txn reply

-- the session was told a beginning of what it has seen, with at least so many commits
abbrev pub WasTold : Managed → Seat → ℕ → Type 0
WasTold o s n = (told : List Item) × (s.note ≡ Some told) × IsPrefix told s.seen × (n ≤ number_in o told)

-- ---- at the end

-- the commits of a list whose numbers are above a base
abbrev pub commits_above : Managed → List Item → ℕ → List Commit
commits_above o list base = drop (base - o.start.base) (all_commits o list)

-- both are beginnings of one list
abbrev pub AreBeginnings : List Commit → List Commit → Type 0
AreBeginnings xs ys = (zs : List Commit) × IsPrefix xs zs × IsPrefix ys zs
