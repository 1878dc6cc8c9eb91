-- What one output has of the reply lines of clients on threads.
use Rattle.std.specs.Prelude.{◌≡◌, ℕ, Bool, Option, Some, None, List, All}
use Rattle.std.specs.List.{list_any}
use Rattle.std.specs.Io.KnownBytes.{Appends}
use Rattle.inputs.specs.declared.call.ClientCall.{ClientCall}
use Rattle.manager.specs.Managed.{Managed}
use Rattle.shared.specs.Sessions.{Seat}
use Rattle.pdtcli.specs.Output.{is_refused, lines_text}
use Rattle.pdtcli.specs.declared.output.ShowFault.{ShowFault}
use Rattle.pdtcli.specs.declared.reply.ReplyLine.{ReplyLine}
use Rattle.journaled_clients.specs.Clients.{DurableServed, IsDurableReply}

-- a line is that of a call that a session of the opening made, and a commit that it reports isn't above the watermark
pub record IsReported (o : Managed) (safe : ℕ) (line : ReplyLine) : Type 0 where
  pub old : Seat
  pub asked : ClientCall
  pub new : Seat
  pub served : DurableServed o old asked line new
  pub durable : IsDurableReply line.reply safe

abbrev pub AreReported : Managed → ℕ → List ReplyLine → Type 0
AreReported o safe lines = All (IsReported o safe) lines

-- the bytes of the writer, the number of the watermark that was loaded, whether some line is one of refusal, and what has failed
pub record Transcribed : Type 0 where
  pub bytes : Option (List ℕ)
  pub safe : ℕ
  pub refused : Bool
  pub fault : Option ShowFault

-- the bytes are those before, and the text of whole lines that are reported
pub record HasLines (o : Managed) (names : List (List ℕ)) (before after : Option (List ℕ)) (safe : ℕ) (refused : Bool) : Type 0 where
  pub lines : List ReplyLine
  pub text : Appends before after (lines_text names lines)
  pub reported : AreReported o safe lines
  pub refused_is : refused ≡ list_any is_refused lines

-- as long as nothing has failed
abbrev pub IsWhole : Managed → List (List ℕ) → Option (List ℕ) → Transcribed → Option ShowFault → Type 0
IsWhole o names before t None = HasLines o names before t.bytes t.safe t.refused
IsWhole o names before t (Some fault) = Unit {0}

abbrev pub IsTranscript : Managed → List (List ℕ) → Option (List ℕ) → Transcribed → Type 0
IsTranscript o names before t = IsWhole o names before t t.fault
