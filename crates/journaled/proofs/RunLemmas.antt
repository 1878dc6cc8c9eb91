-- A run over a journaled store goes on by one call, and each open transaction stays one of the manager.
use Rattle.std.proofs.Common.{◌≡◌, ◌∙◌, ℕ, Bool, true, false, ◌||◌, cond, Option, Some, None, Result, Ok, Err, List, [], ◌∷◌, ◌++◌}
use Rattle.std.proofs.Common.{ap, refl, subst, sym}
use Rattle.std.specs.Prelude.{IfSome, MatchResult}
use Rattle.std.specs.List.{list_any}
use Rattle.std.proofs.lemmas.List.{append-nil}
use Rattle.std.proofs.lemmas.List.Folds.{list_any-append}
use Rattle.devices.specs.Appending.{Taken}
use Rattle.durable.specs.Durable.{Durable, IsLeftOut, IsLogged}
use Rattle.durable.specs.declared.fault.CommitFault.{CommitFault}
use Rattle.inputs.specs.declared.call.Call.{Call}
use Rattle.inputs.specs.declared.call.Call.TheVariants as call
use Rattle.inputs.specs.declared.call.ClientCall.{ClientCall}
use Rattle.logging.specs.declared.fault.LogFault.TheVariants as log_fault
use Rattle.manager.specs.Managed.{IsDecided, IsOwn, Managed}
use Rattle.model.specs.declared.write.CommitReply.{CommitReply}
use Rattle.pdtcli.proofs.CallerLemmas.{Keeps, SideKeeps, keeps_decided, keeps_same, lines_text-more, rebuilt_keeps, side_own, step_keeps}
use Rattle.pdtcli.specs.Output.{is_refused, lines_text, records_text}
use Rattle.pdtcli.specs.Replies.{line_records}
use Rattle.pdtcli.specs.declared.reply.Reply.{Reply}
use Rattle.pdtcli.specs.declared.reply.ReplyLine.{ReplyLine}
use Rattle.txn.specs.Txn.{Transaction}
use Rattle.journaled.specs.Journaled.{Held, IsImaged, IsServed, Journaled, image_refusal, side_of}
use Rattle.journaled.specs.Run.{IsOpened, IsRun, IsRunRefusal, State, Step}
use Rattle.journaled.specs.declared.fault.ImageFault.{ImageFault}
use Rattle.journaled.specs.declared.fault.ImageFault.TheVariants.{Unmarked, Unstored}

-- ---- a call keeps the transactions of the manager

keeps_durable : (old new : Durable) → new ≡ old → Keeps old.manager new.manager
keeps_durable old new is = keeps_same old.manager new.manager (ap (λ (d : Durable). d.manager) is)

commit_keeps : (old new : Durable) (txn : Transaction) (own : Option Transaction) → IsOwn old.manager txn
    → (answer : Result CommitReply CommitFault)
    → MatchResult answer (λ r. IsDecided old.manager txn r new.manager × IsLogged old txn r new × (own ≡ None))
    (λ fault. IsLeftOut old txn fault new × (own ≡ Some txn))
    → SideKeeps (record { manager = old.manager; own = Some txn }) (record { manager = new.manager; own = own })
commit_keeps old new txn own mine (Ok r) h =
    record {
      keeps = keeps_decided old.manager txn r new.manager h.0;
      own = subst (λ (o : Option Transaction). IfSome o (IsOwn new.manager)) (sym h.2) tt;
    }
commit_keeps old new txn own mine (Err fault) h =
    let keeps = keeps_same old.manager new.manager h.0.manager in record {
      keeps = keeps;
      own = subst (λ (o : Option Transaction). IfSome o (IsOwn new.manager)) (sym h.1) (keeps.own txn mine);
    }

pub imaged_keeps : (old : Journaled) (had : Taken) (answer : Result ℕ ImageFault) (new : Journaled) (has : Taken)
    → IsImaged old had answer new has → Keeps old.durable.manager new.durable.manager
imaged_keeps old had (Ok generation) new has h = rebuilt_keeps old.durable.manager new.durable.manager (Ok generation) h.rebuilt
imaged_keeps old had (Err (Unstored fault)) new has h = rebuilt_keeps old.durable.manager new.durable.manager (Err fault) h.rebuilt
imaged_keeps old had (Err (Unmarked fault)) new has h = keeps_durable old.durable new.durable h.durable

pub served_keeps : (client : ℕ) (asked : Call) (j : Journaled) (mine : Option Transaction) (had : Taken) (reply : Reply) (new : Held)
    → IfSome mine (IsOwn j.durable.manager)
    → IsServed client asked (record { journaled = j; own = mine; store = had }) reply new
    → SideKeeps (record { manager = j.durable.manager; own = mine }) (side_of new)
served_keeps client call.Begin j mine had reply new own h =
    step_keeps client call.Begin j.durable.manager mine (side_of new) reply own h.step
served_keeps client (call.Write write) j mine had reply new own h =
    step_keeps client (call.Write write) j.durable.manager mine (side_of new) reply own h.step
served_keeps client (call.Read read) j mine had reply new own h =
    step_keeps client (call.Read read) j.durable.manager mine (side_of new) reply own h.step
served_keeps client call.Commit j None had reply new own h =
    record {
      keeps = keeps_durable j.durable new.journaled.durable h.step.1;
      own = subst (λ (o : Option Transaction). IfSome o (IsOwn new.journaled.durable.manager)) (sym h.step.2) tt;
    }
served_keeps client call.Commit j (Some txn) had reply new own h =
    commit_keeps j.durable new.journaled.durable txn new.own own h.step.answer h.step.done
served_keeps client call.Abort j mine had reply new own h =
    step_keeps client call.Abort j.durable.manager mine (side_of new) reply own h.step
served_keeps client call.Fold j mine had reply new own h =
    step_keeps client call.Fold j.durable.manager mine (side_of new) reply own h.step
served_keeps client call.Checkpoint j mine had reply new own h =
    side_own (record { manager = j.durable.manager; own = mine }) (side_of new) own h.own
    (imaged_keeps j had h.answer new.journaled new.store h.imaged)
served_keeps client call.Cut j mine had reply new own h =
    step_keeps client call.Cut j.durable.manager mine (side_of new) reply own h.step

-- ---- a run goes on

pub IsRun-more : (old mid new : State) (calls : List ClientCall) (lines : List ReplyLine) (asked : ClientCall) (line : ReplyLine)
    → IsRun old calls lines mid → Step mid asked line new → IsRun old (calls ++ asked ∷ []) (lines ++ line ∷ []) new
IsRun-more old mid new [] [] asked line r s = (new, subst (λ (st : State). Step st asked line new) r s, refl)
IsRun-more old mid new (c ∷ calls) (l ∷ lines) asked line r s = (r.0, r.1, IsRun-more r.0 mid new calls lines asked line r.2 s)
IsRun-more old mid new [] (l ∷ lines) asked line r s = absurd r
IsRun-more old mid new (c ∷ calls) [] asked line r s = absurd r

-- ---- what is written

-- the text of one line more
pub lines_text-and : (clients : List (List ℕ)) (lines : List ReplyLine) (line : ReplyLine)
    → lines_text clients lines ++ lines_text clients (line ∷ []) ≡ lines_text clients (lines ++ line ∷ [])
lines_text-and clients lines line =
    ap (λ (records : List (List (List ℕ))). lines_text clients lines ++ records_text records) (append-nil (line_records clients line))
    ∙ lines_text-more clients lines line

or_false : (b : Bool) → (b || false) ≡ b
or_false true = refl
or_false false = refl

-- whether a line was refused, of one more
pub refused-more : (lines : List ReplyLine) (line : ReplyLine)
    → list_any is_refused (lines ++ line ∷ []) ≡ (list_any is_refused lines || is_refused line)
refused-more lines line =
    list_any-append is_refused lines (line ∷ []) ∙ ap (λ b. list_any is_refused lines || b) (or_false (is_refused line))

-- ---- refusals

-- a table that isn't stored is refused by its fault
pub unopened : (opening : Journaled) (had : Taken) (fault : ImageFault) (j : Journaled) (has : Taken)
    → IsImaged opening had (Err fault) j has → IsRunRefusal opening had (image_refusal fault)
unopened opening had (Unstored fault) j has h =
    record { fault = Unstored fault; is = refl; journaled = j; has = has; imaged = h }
unopened opening had (Unmarked log_fault.NoMemory) j has h =
    record { fault = Unmarked log_fault.NoMemory; is = refl; journaled = j; has = has; imaged = h }
unopened opening had (Unmarked log_fault.DeviceFailed) j has h =
    record { fault = Unmarked log_fault.DeviceFailed; is = refl; journaled = j; has = has; imaged = h }

-- a table that isn't refused is stored
pub opened_as : (opening : Journaled) (had : Taken) (answer : Result ℕ ImageFault) (j : Journaled) (has : Taken)
    → IsImaged opening had answer j has → ((fault : ImageFault) → answer ≡ Err fault → ⊥) → IsOpened opening had j has
opened_as opening had (Ok generation) j has h not = record { generation = generation; imaged = h }
opened_as opening had (Err fault) j has h not = absurd (not fault refl)
