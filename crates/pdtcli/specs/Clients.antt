-- A run of clients on threads of their own: what each call of a session may be answered, and what all of them leave.
use Rattle.std.specs.Prelude.{◌≡◌, ◌≢◌, ◌⊎◌, ℕ, ◌+◌, ◌<◌, ◌≤◌, ◌==◌, cond, Some, IsNone, IsSome}
use Rattle.std.specs.Prelude.{Result, List, [], ◌∷◌, All, filter, flat_map, length, map}
use Rattle.std.specs.List.{range_with_len}
use mathlib.Core.List.{IsPrefix}
use Rattle.inputs.specs.declared.call.Call.{Call}
use Rattle.inputs.specs.declared.call.Call.TheVariants as call
use Rattle.inputs.specs.declared.call.ClientCall.{ClientCall}
use Rattle.model.specs.History.{IsLegal}
use Rattle.manager.specs.History.{Recorded}
use Rattle.manager.specs.Managed.{Managed}
use Rattle.manager.specs.declared.fault.CheckpointFault.{CheckpointFault}
use Rattle.publishing.specs.Commits.{commits_made}
use Rattle.publishing.specs.Lists.{number_in}
use Rattle.shared.specs.Endings.{IsClosed, IsHandedOut}
use Rattle.shared.specs.Sessions.{Seat, WasReplied, AreBeginnings, begun_in, commits_above, new_seat}
use Rattle.pdtcli.specs.declared.reply.Reply.{Reply}
use Rattle.pdtcli.specs.declared.reply.Reply.TheVariants.{Begun, AlreadyOpen, NotOpen, Decided, Folded, Cut, Ended, Stranger, NoMemory}
use Rattle.pdtcli.specs.declared.reply.ReplyLine.{ReplyLine}
use Rattle.pdtcli.specs.Outcome.{Left}
use Rattle.pdtcli.specs.Reads.{ReadStep}
use Rattle.shared.specs.declared.fault.ShareFault.TheVariants as share_fault
use Rattle.pdtcli.specs.declared.clients.RunFault.{RunFault}
use Rattle.pdtcli.specs.declared.clients.RunFault.TheVariants as run_fault
use Rattle.pdtcli.specs.Run.{Side, WriteStep, AbortStep, checkpoint_reply, is_decided, line_of}

-- ---- one call

-- the session's transaction, beside the manager that the sessions were opened over
abbrev pub side_of_seat : Managed → Seat → Side
side_of_seat o seat = record { manager = o; own = seat.txn }

-- a begin: over the version of all that the session has then seen
abbrev pub SeatBegin : Managed → Seat → Reply → Seat → Type 0
SeatBegin o old Begun new =
    IsNone old.txn × IsPrefix old.seen new.seen
    × (new ≡ record old { seen = new.seen; txn = Some (begun_in o new.seen old.client) })
SeatBegin o old AlreadyOpen new = IsSome old.txn × (new ≡ old)
SeatBegin o old Ended new = IsNone old.txn × (new ≡ old)
SeatBegin o old NoMemory new = IsNone old.txn × (new ≡ old)
SeatBegin o old reply new = ⊥

-- a commit: the reply is the one that is due where it stands in the published list. A stranger has seen more commits than
-- were held at the opening
abbrev pub SeatCommit : Managed → Seat → Reply → Seat → Type 0
SeatCommit o old (Decided reply) new = WasReplied o old new reply × IsNone new.txn
SeatCommit o old NotOpen new = IsNone old.txn × (new ≡ old)
SeatCommit o old NoMemory new = IsSome old.txn × (new ≡ old)
SeatCommit o old Stranger new = IsSome old.txn × (number_in o [] < number_in o old.seen) × (new ≡ old)
SeatCommit o old reply new = ⊥

-- a cut tells how many records a history has that it handed out, which is a legal one of this opening
abbrev pub IsCutReply : Managed → Reply → Type 0
IsCutReply o (Cut count) =
    (history : Recorded) × IsHandedOut o history × IsLegal history.schema history.start history.records
    × (count ≡ length history.records)
IsCutReply o NoMemory = Unit {0}
IsCutReply o reply = ⊥

-- the session's call may be answered so, and leave this
abbrev pub SeatAnswers : Managed → Call → Seat → Reply → Seat → Type 0
SeatAnswers o call.Begin old reply new = SeatBegin o old reply new
SeatAnswers o (call.Write write) old reply new =
    WriteStep old.txn write (side_of_seat o old) reply (side_of_seat o new) × (new ≡ record old { txn = new.txn })
SeatAnswers o (call.Read read) old reply new = ReadStep old.txn read reply × (new ≡ old)
SeatAnswers o call.Commit old reply new = SeatCommit o old reply new
SeatAnswers o call.Abort old reply new =
    AbortStep old.txn (side_of_seat o old) reply (side_of_seat o new) × (new ≡ record old { txn = new.txn })
SeatAnswers o call.Fold old reply new = ((reply ≡ Folded) ⊎ (reply ≡ NoMemory)) × (new ≡ old)
SeatAnswers o call.Checkpoint old reply new =
    ((answer : Result ℕ CheckpointFault) × (reply ≡ checkpoint_reply answer)) × (new ≡ old)
SeatAnswers o call.Cut old reply new = IsCutReply o reply × (new ≡ old)

-- how many commits a reply decides
abbrev pub decided_by : Reply → ℕ
decided_by reply = cond (is_decided reply) 1 0

-- and the session counts each commit that is decided, and nothing else
pub record SeatStep (o : Managed) (asked : Call) (old : Seat) (reply : Reply) (new : Seat) : Type 0 where
  pub answers : SeatAnswers o asked old reply new
  pub counted : new.count ≡ old.count + decided_by reply
  pub client : new.client ≡ old.client

-- ---- one client

-- a call's line is that of such a step
pub record SeatServed (o : Managed) (old : Seat) (asked : ClientCall) (line : ReplyLine) (new : Seat) : Type 0 where
  pub reply : Reply
  pub step : SeatStep o asked.call old reply new
  pub told : line ≡ line_of asked reply

-- a line for each call, in order
abbrev pub IsSeatRun : Managed → Seat → List ClientCall → List ReplyLine → Seat → Type 0
IsSeatRun o old [] [] new = new ≡ old
IsSeatRun o old (asked ∷ calls) (line ∷ lines) new = (mid : Seat) × SeatServed o old asked line mid × IsSeatRun o mid calls lines new
IsSeatRun o old [] (line ∷ lines) new = ⊥
IsSeatRun o old (asked ∷ calls) [] new = ⊥

-- a client's calls
abbrev pub calls_of : ℕ → List ClientCall → List ClientCall
calls_of client calls = filter (λ (asked : ClientCall). asked.client == client) calls

-- how many of the lines decide a commit
abbrev pub decided_in : List ReplyLine → ℕ
decided_in lines = length (filter (λ (line : ReplyLine). is_decided line.reply) lines)

-- all calls of a session's client were made and answered in their order, and the session has counted the commits among them
-- that were decided
pub record HasMade (o : Managed) (old : Seat) (calls : List ClientCall) (lines : List ReplyLine) (new : Seat) : Type 0 where
  pub run : IsSeatRun o old (calls_of old.client calls) lines new
  pub counted : new.count ≡ old.count + decided_in lines

-- ---- all clients

-- each session has made its calls among these, and was left so
abbrev pub HaveMade : Managed → List (Seat × List ClientCall) → List (List ReplyLine) → List Seat → Type 0
HaveMade o [] [] [] = Unit {0}
HaveMade o (given ∷ givens) (lines ∷ groups) (seat ∷ seats) = HasMade o given.0 given.1 lines seat × HaveMade o givens groups seats
HaveMade o [] [] (seat ∷ seats) = ⊥
HaveMade o [] (lines ∷ groups) seats = ⊥
HaveMade o (given ∷ givens) [] seats = ⊥
HaveMade o (given ∷ givens) (lines ∷ groups) [] = ⊥

abbrev pub each_with : List ClientCall → List Seat → List (Seat × List ClientCall)
each_with calls seats = map (λ (seat : Seat). (seat, calls)) seats

-- the lines of all clients, one client after the other
abbrev pub joined_lines : List (List ReplyLine) → List ReplyLine
joined_lines groups = flat_map (λ (lines : List ReplyLine). lines) groups

-- what is left of so many clients: a group of lines for each, which its session made; the counts are the sessions'; the manager
-- is the one that was handed in, as the published list has left it; and the commits that each session has seen at the end and
-- those of the manager's history are beginnings of one list
pub record IsLeft (o : Managed) (calls : List ClientCall) (clients : ℕ) (left : Left) : Type 0 where
  pub groups : List (List ReplyLine)
  pub seats : List Seat
  pub made : HaveMade o (each_with calls (map new_seat (range_with_len 0 clients))) groups seats
  pub lines : left.lines ≡ joined_lines groups
  pub counts : left.counts ≡ map (λ (seat : Seat). seat.count) seats
  pub closed : IsClosed o seats left.manager
  pub lists : All (λ (seat : Seat). AreBeginnings (commits_above o seat.seen left.manager.start.base) (commits_made left.manager)) seats

-- ---- refusals

-- why not all of so many clients are started: room or a thread is refused
abbrev pub IsSpawnRefusal : ℕ → RunFault → Type 0
IsSpawnRefusal clients (run_fault.Open fault) = ⊥
IsSpawnRefusal clients (run_fault.NoThread client) = client < clients
IsSpawnRefusal clients run_fault.NoMemory = Unit {0}

-- why nothing is left of so many clients. There are too many exactly above 64; where there are none, only memory can be wanted
abbrev pub IsClientsRefusal : ℕ → RunFault → Type 0
IsClientsRefusal clients (run_fault.Open fault) =
    (1 ≤ clients) × (clients ≤ 64 → fault ≢ share_fault.BadLimit) × (64 < clients → fault ≡ share_fault.BadLimit)
IsClientsRefusal clients (run_fault.NoThread client) = client < clients
IsClientsRefusal clients run_fault.NoMemory = Unit {0}
