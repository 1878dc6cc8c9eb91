-- What the journal has of a run.
use Rattle.std.specs.Prelude.{◌≡◌, ◌≢◌, ℕ, Bool, true, false, List, filter, length}
use Rattle.std.specs.List.{All}
use Rattle.durable.specs.Journaled.{IsJournaled, Journal}
use Rattle.inputs.specs.declared.call.ClientCall.{ClientCall}
use Rattle.inputs.specs.declared.verb.Verb.{Verb}
use Rattle.inputs.specs.declared.verb.Verb.TheVariants as verb
use Rattle.manager.specs.Managed.{newest_number, newest_table}
use Rattle.model.specs.declared.write.CommitReply.{CommitReply}
use Rattle.model.specs.declared.write.CommitReply.TheVariants.{Committed}
use Rattle.pdtcli.specs.declared.reply.Reply.{Reply}
use Rattle.pdtcli.specs.declared.reply.Reply.TheVariants.{Decided, Unsure}
use Rattle.pdtcli.specs.declared.reply.ReplyLine.{ReplyLine}
use Rattle.journaled.specs.Run.{IsRun, State}

abbrev pub is_granted : CommitReply → Bool
is_granted (Committed n) = true
is_granted other = false

abbrev pub is_committed : Reply → Bool
is_committed (Decided reply) = is_granted reply
is_committed other = false

-- whether a call of this verb is a commit that was replied Committed
abbrev pub is_committed_by : Verb → Reply → Bool
is_committed_by verb.Commit reply = is_committed reply
is_committed_by other reply = false

-- how many of the lines tell such a commit
abbrev pub committed_count : List ReplyLine → ℕ
committed_count lines = length (filter (λ line. is_committed_by line.verb line.reply) lines)

-- As long as no commit is unsure: what the device was handed since are the frames of the commits that were replied Committed, which lead
-- from the table then to the newest one
abbrev pub ARunIsJournaled : Type 0
ARunIsJournaled =
    (old new : State) (calls : List ClientCall) (lines : List ReplyLine)
    → IsRun old calls lines new → All (λ line. line.reply ≢ Unsure) lines
    → (j : Journal) × IsJournaled new.journaled.durable j
    × (j.table ≡ newest_table old.journaled.durable.manager)
    × (j.base ≡ newest_number old.journaled.durable.manager)
    × (j.front ≡ old.journaled.durable.log.device.appended)
    × (length j.commits ≡ committed_count lines)
