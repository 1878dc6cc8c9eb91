-- What a run of clients on threads leaves: their sessions, the manager, the journal, and the lines that were written.
use Rattle.std.specs.Prelude.{◌≡◌, ℕ, ◌+◌, ◌<◌, ◌≤◌, List, [], ◌∷◌, ◌++◌, get_or, length, map, max, sum}
use Rattle.std.specs.List.{range_with_len}
use Rattle.inputs.specs.Typed.{Typed}
use Rattle.inputs.specs.declared.call.ClientCall.{ClientCall}
use Rattle.logging.specs.Device.{Device}
use Rattle.manager.specs.Managed.{IsManaged, Managed, newest_table}
use Rattle.model.specs.Table.{rows_of}
use Rattle.publishing.specs.Lists.{number_in}
use Rattle.shared.specs.Sessions.{Seat, new_seat}
use Rattle.durable_sessions.specs.Endings.{IsClosedDurably}
use Rattle.pdtcli.specs.Output.{image_text, lines_text}
use Rattle.pdtcli.specs.declared.refusal.Refusal.{Refusal}
use Rattle.pdtcli.specs.declared.refusal.Refusal.TheVariants as refusal
use Rattle.pdtcli.specs.declared.reply.ReplyLine.{ReplyLine}
use Rattle.journaled_clients.specs.Clients.{HasMadeDurably}
use Rattle.journaled_clients.specs.Transcripts.{AreReported}

-- each session made all of its client's calls among these, in their order, and was left so
pub record HaveMadeDurably (o : Managed) (calls : List ClientCall) (before after : List Seat) : Type 0 where
  pub count : length after ≡ length before
  pub made :
      (i : ℕ) (d : Seat) → i < length before
      → (lines : List ReplyLine) × HasMadeDurably o (get_or before i d) calls lines (get_or after i d)

-- the sessions of a script's clients, before their first call; one of no client's, where there is no client
abbrev pub first_seats : Typed → List Seat
first_seats script = map new_seat (range_with_len 0 (max 1 (length script.clients)))

-- the manager and the journal are those of the sessions as they were left, and all commits up to a number are durable in the journal
pub record IsClosedRun (o : Managed) (table : ℕ) (front : List ℕ) (seed : ℕ) (seats : List Seat) (safe : ℕ) (m : Managed) (counts : List ℕ)
    (device : Device) : Type 0 where
  pub readers : List ℕ
  pub ended : IsClosedDurably o table front seed seats readers m device
  pub durable : safe ≤ number_in o ended.written
  pub counts_are : counts ≡ map (λ (seat : Seat). seat.count) seats
  pub records : m.made ≡ o.made + sum counts
  pub lawful : IsManaged m

-- the clients made their calls, and were closed; each line that was written is the reply to such a call, and each commit that one reports
-- is durable in the journal
pub record IsDurableRunOfClients (o : Managed) (table : ℕ) (script : Typed) (front : List ℕ) (seed : ℕ) (lines : List ReplyLine) (m : Managed)
    (counts : List ℕ) (device : Device) : Type 0 where
  pub seats : List Seat
  pub safe : ℕ
  pub made : HaveMadeDurably o script.calls (first_seats script) seats
  pub closed : IsClosedRun o table front seed seats safe m counts device
  pub reported : AreReported o safe lines

-- what is written of a run: its reply lines, a line feed, and the newest image with its header
abbrev pub transcript_text : List (List ℕ) → List ReplyLine → Managed → List ℕ
transcript_text clients lines manager =
    lines_text clients lines ++ (10 ∷ [] ++ image_text manager.schema (rows_of (newest_table manager)))

-- the table isn't stored, the sessions aren't opened, or what is written isn't whole
abbrev pub IsRunRefusal : Refusal → Type 0
IsRunRefusal (refusal.Store fault) = Unit {0}
IsRunRefusal (refusal.Threads fault) = Unit {0}
IsRunRefusal (refusal.Output fault) = Unit {0}
IsRunRefusal other = ⊥
