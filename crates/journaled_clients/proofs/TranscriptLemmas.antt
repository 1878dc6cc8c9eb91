-- A transcript goes on by one line.
use Rattle.std.proofs.Common.{◌≡◌, ℕ, ◌≤◌, Bool, true, false, ◌||◌, Option, Some, None, List, [], ◌∷◌, ◌++◌, refl, sym, ap, ◌∙◌, subst, arith}
use Rattle.std.specs.List.{list_any}
use Rattle.std.specs.Io.KnownBytes.{Appends}
use Rattle.std.proofs.KnownBytes.{Appends-trans}
use Rattle.std.proofs.lemmas.List.{append-nil}
use Rattle.std.proofs.lemmas.List.Elements.{All-push, All-weaker}
use Rattle.std.proofs.lemmas.List.Folds.{list_any-append}
use Rattle.model.specs.declared.write.CommitReply.{CommitReply}
use Rattle.model.specs.declared.write.CommitReply.TheVariants.{Committed, Conflict, TooOld, Full}
use Rattle.manager.specs.Managed.{Managed}
use Rattle.durable_sessions.specs.Queues.{IsDurable}
use Rattle.pdtcli.specs.Output.{is_refused, lines_text, records_text}
use Rattle.pdtcli.specs.Replies.{line_records}
use Rattle.pdtcli.specs.declared.reply.Reply.{Reply}
use Rattle.pdtcli.specs.declared.reply.Reply.TheVariants as reply
use Rattle.pdtcli.specs.declared.reply.ReplyLine.{ReplyLine}
use Rattle.pdtcli.proofs.CallerLemmas.{lines_text-more}
use Rattle.journaled_clients.specs.Clients.{IsDurableReply}
use Rattle.journaled_clients.specs.Transcripts.{AreReported, HasLines, IsReported, IsTranscript, IsWhole, Transcribed}

-- ---- what is durable stays so

IsDurable-later : (r : CommitReply) (a b : ℕ) → a ≤ b → IsDurable r a → IsDurable r b
IsDurable-later (Committed n) a b h d = omega (arith, h, d)
IsDurable-later (Conflict n) a b h d = tt
IsDurable-later (TooOld n) a b h d = tt
IsDurable-later (Full n) a b h d = tt

pub reply-later : (r : Reply) (a b : ℕ) → a ≤ b → IsDurableReply r a → IsDurableReply r b
reply-later (reply.Decided r) a b h d = IsDurable-later r a b h d
reply-later reply.Begun a b h d = tt
reply-later reply.AlreadyOpen a b h d = tt
reply-later reply.NotOpen a b h d = tt
reply-later (reply.Wrote w) a b h d = tt
reply-later reply.KeyColumn a b h d = tt
reply-later (reply.TextTooLong n) a b h d = tt
reply-later (reply.Row r) a b h d = tt
reply-later reply.Missing a b h d = tt
reply-later reply.NoRow a b h d = tt
reply-later (reply.Place n found) a b h d = tt
reply-later (reply.Rows n) a b h d = tt
reply-later (reply.Scanned rows) a b h d = tt
reply-later reply.Aborted a b h d = tt
reply-later reply.Folded a b h d = tt
reply-later (reply.Stored g) a b h d = tt
reply-later (reply.DeviceFailed i) a b h d = tt
reply-later reply.StoreFailed a b h d = tt
reply-later reply.GenerationsSpent a b h d = tt
reply-later (reply.Cut n) a b h d = tt
reply-later reply.Ended a b h d = tt
reply-later reply.Stranger a b h d = tt
reply-later reply.TooLong a b h d = tt
reply-later reply.Unsure a b h d = tt
reply-later reply.JournalFailed a b h d = tt
reply-later reply.NoMemory a b h d = tt

pub reported-later : (o : Managed) (a b : ℕ) (line : ReplyLine) → a ≤ b → IsReported o a line → IsReported o b line
reported-later o a b line h r =
    record { old = r.old; asked = r.asked; new = r.new; served = r.served; durable = reply-later line.reply a b h r.durable }

pub AreReported-later : (o : Managed) (a b : ℕ) (lines : List ReplyLine) → a ≤ b → AreReported o a lines → AreReported o b lines
AreReported-later o a b lines h r =
    All-weaker (IsReported o a) (IsReported o b) (λ line. reported-later o a b line h) lines r

-- ---- a line more

or_false : (b : Bool) → (b || false) ≡ b
or_false true = refl
or_false false = refl

text-and : (names : List (List ℕ)) (lines : List ReplyLine) (line : ReplyLine)
    → lines_text names lines ++ lines_text names (line ∷ []) ≡ lines_text names (lines ++ line ∷ [])
text-and names lines line =
    ap (λ (records : List (List (List ℕ))). lines_text names lines ++ records_text records) (append-nil (line_records names line))
    ∙ lines_text-more names lines line

refused-more : (lines : List ReplyLine) (line : ReplyLine)
    → list_any is_refused (lines ++ line ∷ []) ≡ (list_any is_refused lines || is_refused line)
refused-more lines line =
    list_any-append is_refused lines (line ∷ []) ∙ ap (λ b. list_any is_refused lines || b) (or_false (is_refused line))

pub HasLines-more :
    (o : Managed) (names : List (List ℕ)) (before mid after : Option (List ℕ)) (old new safe : ℕ) (was now : Bool) (line : ReplyLine)
    → HasLines o names before mid old was → old ≤ new → safe ≤ new → IsReported o safe line
    → Appends mid after (lines_text names (line ∷ [])) → now ≡ (was || is_refused line)
    → HasLines o names before after new now
HasLines-more o names before mid after old new safe was now line h later covers reported text now_is =
    record {
      lines = h.lines ++ line ∷ [];
      text =
          subst (Appends before after) (text-and names h.lines line)
          (Appends-trans before mid after (lines_text names h.lines) (lines_text names (line ∷ [])) h.text text);
      reported =
          All-push (IsReported o new) h.lines line (AreReported-later o old new h.lines later h.reported)
          (reported-later o safe new line covers reported);
      refused_is = now_is ∙ ap (λ b. b || is_refused line) h.refused_is ∙ sym (refused-more h.lines line);
    }

pub none-of : {A : Type 0} (f : Option A) → ((x : A) → f ≡ Some x → ⊥) → f ≡ None
none-of None h = refl
none-of (Some x) h = absurd (h x refl)

-- a transcript in which nothing has failed goes on by a line
pub IsTranscript-more :
    (o : Managed) (names : List (List ℕ)) (before : Option (List ℕ)) (t u : Transcribed) (safe : ℕ) (line : ReplyLine)
    → IsTranscript o names before t → t.fault ≡ None → u.fault ≡ None → t.safe ≤ u.safe → safe ≤ u.safe → IsReported o safe line
    → Appends t.bytes u.bytes (lines_text names (line ∷ [])) → u.refused ≡ (t.refused || is_refused line)
    → IsTranscript o names before u
IsTranscript-more o names before t u safe line h was is later covers reported text refused =
    let whole : HasLines o names before t.bytes t.safe t.refused = subst (IsWhole o names before t) was h in
    subst (IsWhole o names before u) (sym is)
    (HasLines-more o names before t.bytes u.bytes t.safe u.safe safe t.refused u.refused line whole later covers reported text refused)
