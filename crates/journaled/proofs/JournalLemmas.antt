-- What the journal has of a run, call by call.
use Rattle.std.proofs.Common.{◌≡◌, ◌≢◌, ◌∙◌, ◌<◌, ℕ, suc, ◌+◌, true, false, Option, Some, None, Result, Ok, Err, List, [], ◌∷◌, ◌++◌, length}
use Rattle.std.proofs.Common.{Bool, cond, ap, refl, subst, sym, append_assoc, arith, filter}
use Rattle.std.specs.Prelude.{MatchResult}
use Rattle.std.specs.List.{All}
use Rattle.std.proofs.lemmas.List.{append-nil, length-append}
use Rattle.devices.specs.Appending.{Taken}
use Rattle.durable.specs.Durable.{Durable, IsLeftOut, IsLogged, IsUnlogged}
use Rattle.durable.specs.Journaled.{IsJournaled, Journal, journal_with}
use Rattle.durable.specs.Laws.{ACommitIsJournaled}
use Rattle.durable.specs.declared.fault.CommitFault.{CommitFault}
use Rattle.durable.specs.declared.fault.CommitFault.TheVariants as commit_fault
use Rattle.inputs.specs.declared.call.Call.{Call}
use Rattle.inputs.specs.declared.call.Call.TheVariants as call
use Rattle.inputs.specs.declared.call.ClientCall.{ClientCall}
use Rattle.inputs.specs.declared.call.Read.TheVariants.{Get, At, Rank, Len, Scan}
use Rattle.model.specs.declared.write.Write.TheVariants.{Insert, Delete, Set}
use Rattle.pdtcli.specs.Run.{line_of, verb_of_call}
use Rattle.logging.specs.Log.{Log}
use Rattle.manager.specs.Managed.{IsDecided, IsManaged, IsOwn, Managed, newest_number, newest_table, newest_version, rebuilt_of}
use Rattle.manager.specs.declared.fault.CheckpointFault.{CheckpointFault}
use Rattle.model.specs.declared.write.CommitReply.{CommitReply}
use Rattle.model.specs.declared.write.CommitReply.TheVariants.{Committed, Conflict, TooOld, Full}
use Rattle.pdtcli.specs.declared.reply.Reply.{Reply}
use Rattle.pdtcli.specs.declared.reply.Reply.TheVariants as reply
use Rattle.pdtcli.specs.declared.reply.ReplyLine.{ReplyLine}
use Rattle.txn.specs.Txn.{IsTransaction, Transaction, effects_of}
use Rattle.txn.specs.Version.{TableVersion}
use Rattle.journaled.specs.Journaled.{CommitStep, Held, IsImaged, IsServed, Journaled, commit_reply, with_manager}
use Rattle.journaled.specs.Laws.{ARunIsJournaled, committed_count, is_committed, is_committed_by}
use Rattle.journaled.specs.Run.{IsRun, State, Step, held_of}
use Rattle.journaled.specs.declared.fault.ImageFault.{ImageFault}
use Rattle.journaled.specs.declared.fault.ImageFault.TheVariants.{Unmarked, Unstored}

-- the journal goes on from another: the same table, base and front, and so many commits more
record GoesOn (from j : Journal) (more : ℕ) : Type 0 where
  table : j.table ≡ from.table
  base : j.base ≡ from.base
  front : j.front ≡ from.front
  commits : length j.commits ≡ length from.commits + more

-- after a call the journal has its commit, where there is one
record IsKept (from : Journal) (d : Durable) (more : ℕ) : Type 0 where
  j : Journal
  goes_on : GoesOn from j more
  is : IsJournaled d j

same : (from : Journal) → GoesOn from from 0
same from = record { table = refl; base = refl; front = refl; commits = omega arith }

-- a durable manager of the same version and log has logged the same commits
quiet : (old new : Durable) (j : Journal) → newest_version new.manager ≡ newest_version old.manager → new.log ≡ old.log
    → new.table ≡ old.table → IsJournaled old j → IsJournaled new j
quiet old new j version log table h =
    let schema_is = ap (λ (v : TableVersion). v.schema) (sym version) in
    let table_is = ap (λ (v : TableVersion). v.table) version in
    let number_is = ap (λ (v : TableVersion). v.number) version in
    record {
      logs = rw (← schema_is, table) h.logs;
      newest = table_is ∙ h.newest;
      number = number_is ∙ h.number;
      said = rw (← schema_is, table) h.said;
      appended = rw log h.appended;
    }

-- ---- a commit

abbrev one : Bool → ℕ
one b = cond b 1 0

decided : ACommitIsJournaled → (old new : Durable) (txn : Transaction) (j : Journal) → IsManaged old.manager → IsTransaction txn
    → IsOwn old.manager txn → IsJournaled old j → (r : CommitReply) → IsDecided old.manager txn r new.manager → IsLogged old txn r new
    → IsKept j new (one (is_committed (reply.Decided r)))
decided law old new txn j managed lawful mine h (Committed n) is logged =
    record {
      j = journal_with old txn (Committed n) j;
      goes_on = record { table = refl; base = refl; front = refl; commits = length-append j.commits (effects_of txn ∷ []) };
      is = law old new txn (Committed n) j managed lawful mine h is logged;
    }
decided law old new txn j managed lawful mine h (Conflict n) is logged =
    record {
      j = journal_with old txn (Conflict n) j;
      goes_on = record { table = refl; base = refl; front = refl; commits = omega arith };
      is = law old new txn (Conflict n) j managed lawful mine h is logged;
    }
decided law old new txn j managed lawful mine h (TooOld n) is logged =
    record {
      j = journal_with old txn (TooOld n) j;
      goes_on = record { table = refl; base = refl; front = refl; commits = omega arith };
      is = law old new txn (TooOld n) j managed lawful mine h is logged;
    }
decided law old new txn j managed lawful mine h (Full n) is logged =
    record {
      j = journal_with old txn (Full n) j;
      goes_on = record { table = refl; base = refl; front = refl; commits = omega arith };
      is = law old new txn (Full n) j managed lawful mine h is logged;
    }

stays : (old new : Durable) (j : Journal) → new.manager ≡ old.manager → new.log ≡ old.log → new.table ≡ old.table → IsJournaled old j
    → IsKept j new 0
stays old new j manager log table h =
    record { j = j; goes_on = same j; is = quiet old new j (ap newest_version manager) log table h }

left_out : (old new : Durable) (txn : Transaction) (j : Journal) → IsJournaled old j → (fault : CommitFault)
    → IsLeftOut old txn fault new → commit_reply (Err fault) ≢ reply.Unsure → IsKept j new (one (is_committed (commit_reply (Err fault))))
left_out old new txn j h commit_fault.NoMemory left sure = stays old new j left.manager left.log left.table h
left_out old new txn j h commit_fault.TooLong left sure = stays old new j left.manager left.log left.table h
left_out old new txn j h commit_fault.Unsure left sure = absurd (sure refl)
left_out old new txn j h commit_fault.JournalFailed left sure = stays old new j left.manager left.log.0 left.table h

committed : ACommitIsJournaled → (old new : Durable) (txn : Transaction) (own : Option Transaction) (j : Journal)
    → IsManaged old.manager → IsTransaction txn → IsOwn old.manager txn → IsJournaled old j
    → (answer : Result CommitReply CommitFault)
    → MatchResult answer (λ r. IsDecided old.manager txn r new.manager × IsLogged old txn r new × (own ≡ None))
    (λ fault. IsLeftOut old txn fault new × (own ≡ Some txn))
    → commit_reply answer ≢ reply.Unsure → IsKept j new (one (is_committed (commit_reply answer)))
committed law old new txn own j managed lawful mine h (Ok r) done sure = decided law old new txn j managed lawful mine h r done.0 done.1
committed law old new txn own j managed lawful mine h (Err fault) done sure = left_out old new txn j h fault done.0 sure

-- a commit with no transaction open, or of an open one
commit_step : ACommitIsJournaled → (old new : Durable) (mine own : Option Transaction) (r : Reply) (j : Journal)
    → CommitStep mine old r new own → r ≢ reply.Unsure → IsJournaled old j → IsKept j new (one (is_committed r))
commit_step law old new None own r j step sure h =
    subst (λ (told : Reply). IsKept j new (one (is_committed told))) (sym step.0)
    (subst (λ (d : Durable). IsKept j d 0) (sym step.1) (record { j = j; goes_on = same j; is = h }))
commit_step law old new (Some txn) own r j step sure h =
    subst (λ (told : Reply). IsKept j new (one (is_committed told))) (sym step.told)
    (committed law old new txn own j step.managed step.lawful step.mine h step.answer step.done
    (λ unsure. sure (step.told ∙ unsure)))

-- ---- a call

rebuilt_same : (old new : Managed) (answer : Result ℕ CheckpointFault) → MatchResult answer (λ _. new ≡ rebuilt_of old) (λ _. new ≡ old)
    → newest_version new ≡ newest_version old
rebuilt_same old new (Ok generation) is = ap newest_version is
rebuilt_same old new (Err fault) is = ap newest_version is

with_same : (old new : Durable) (j : Journal) → newest_version new.manager ≡ newest_version old.manager
    → new ≡ record old { manager = new.manager } → IsJournaled old j → IsKept j new 0
with_same old new j version is h =
    record {
      j = j;
      goes_on = same j;
      is = quiet old new j version (ap (λ (d : Durable). d.log) is) (ap (λ (d : Durable). d.table) is) h;
    }

imaged : (old : Journaled) (had : Taken) (answer : Result ℕ ImageFault) (new : Journaled) (has : Taken) (j : Journal)
    → IsImaged old had answer new has → IsJournaled old.durable j → IsKept j new.durable 0
imaged old had (Ok generation) new has j is h =
    with_same old.durable new.durable j (rebuilt_same old.durable.manager new.durable.manager (Ok generation) is.rebuilt) is.durable h
imaged old had (Err (Unstored fault)) new has j is h =
    with_same old.durable new.durable j (rebuilt_same old.durable.manager new.durable.manager (Err fault) is.rebuilt) is.durable h
imaged old had (Err (Unmarked fault)) new has j is h =
    subst (λ (d : Durable). IsKept j d 0) (sym is.durable) (record { j = j; goes_on = same j; is = h })

alone : (old new : Journaled) (j : Journal) → newest_version new.durable.manager ≡ newest_version old.durable.manager
    → new ≡ with_manager new.durable.manager old → IsJournaled old.durable j → IsKept j new.durable 0
alone old new j version is h = with_same old.durable new.durable j version (ap (λ (x : Journaled). x.durable) is) h

served : ACommitIsJournaled → (client : ℕ) (asked : Call) (old : Held) (r : Reply) (new : Held) (j : Journal)
    → IsServed client asked old r new → r ≢ reply.Unsure → IsJournaled old.journaled.durable j
    → IsKept j new.journaled.durable (one (is_committed_by (verb_of_call asked) r))
served law client call.Commit old r new j is sure h =
    commit_step law old.journaled.durable new.journaled.durable old.own new.own r j is.step sure h
served law client call.Checkpoint old r new j is sure h = imaged old.journaled old.store is.answer new.journaled new.store j is.imaged h
served law client call.Begin old r new j is sure h = alone old.journaled new.journaled j is.newest is.journaled h
served law client (call.Write (Insert row)) old r new j is sure h = alone old.journaled new.journaled j is.newest is.journaled h
served law client (call.Write (Delete key)) old r new j is sure h = alone old.journaled new.journaled j is.newest is.journaled h
served law client (call.Write (Set key col value)) old r new j is sure h = alone old.journaled new.journaled j is.newest is.journaled h
served law client (call.Read (Get key)) old r new j is sure h = alone old.journaled new.journaled j is.newest is.journaled h
served law client (call.Read (At rid)) old r new j is sure h = alone old.journaled new.journaled j is.newest is.journaled h
served law client (call.Read (Rank key)) old r new j is sure h = alone old.journaled new.journaled j is.newest is.journaled h
served law client (call.Read Len) old r new j is sure h = alone old.journaled new.journaled j is.newest is.journaled h
served law client (call.Read (Scan from to)) old r new j is sure h = alone old.journaled new.journaled j is.newest is.journaled h
served law client call.Abort old r new j is sure h = alone old.journaled new.journaled j is.newest is.journaled h
served law client call.Fold old r new j is sure h = alone old.journaled new.journaled j is.newest is.journaled h
served law client call.Cut old r new j is sure h = alone old.journaled new.journaled j is.newest is.journaled h

-- ---- a run

count-cons : (line : ReplyLine) (lines : List ReplyLine)
    → committed_count (line ∷ lines) ≡ one (is_committed_by line.verb line.reply) + committed_count lines
count-cons line lines = counted (is_committed_by line.verb line.reply) refl
  where
    counted : (b : Bool) → is_committed_by line.verb line.reply ≡ b → committed_count (line ∷ lines) ≡ one b + committed_count lines
    counted true e =
        let more : committed_count (line ∷ lines) ≡ suc (committed_count lines) = rw e refl in
        omega (arith, more)
    counted false e =
        let same_count : committed_count (line ∷ lines) ≡ committed_count lines = rw e refl in
        omega (arith, same_count)

further : (a b c : Journal) (m n : ℕ) → GoesOn a b m → GoesOn b c n → GoesOn a c (m + n)
further a b c m n one two =
    record {
      table = two.table ∙ one.table;
      base = two.base ∙ one.base;
      front = two.front ∙ one.front;
      commits = omega (arith, one.commits, two.commits);
    }

run_kept : ACommitIsJournaled → (old new : State) (calls : List ClientCall) (lines : List ReplyLine) (j : Journal)
    → IsRun old calls lines new → All (λ line. line.reply ≢ reply.Unsure) lines → IsJournaled old.journaled.durable j
    → IsKept j new.journaled.durable (committed_count lines)
run_kept law old new [] [] j run sure h =
    subst (λ (s : State). IsKept j s.journaled.durable 0) (sym run) (record { j = j; goes_on = same j; is = h })
run_kept law old new (asked ∷ calls) (line ∷ lines) j run sure h =
    let mid = run.0 in
    let step = run.1 in
    let told : line.reply ≡ step.reply = ap (λ (l : ReplyLine). l.reply) step.told in
    let this : ReplyLine = line_of asked step.reply in
    let first =
    served law asked.client asked.call (held_of old asked.client) step.reply step.held j step.served
    (λ unsure. sure 0 line (omega arith) (told ∙ unsure)) h in
    let after : IsJournaled mid.journaled.durable first.j =
    subst (λ (s : State). IsJournaled s.journaled.durable first.j) (sym step.left) first.is in
    let rest = run_kept law mid new calls lines first.j run.2 (λ k d lt. sure (suc k) d (omega (arith, lt))) after in
    let counted : committed_count (line ∷ lines) ≡ one (is_committed_by (verb_of_call asked.call) step.reply) + committed_count lines =
    ap (λ (l : ReplyLine). committed_count (l ∷ lines)) step.told ∙ count-cons this lines in
    subst (IsKept j new.journaled.durable) (sym counted)
    (record { j = rest.j; goes_on = further j first.j rest.j _ _ first.goes_on rest.goes_on; is = rest.is })
run_kept law old new [] (line ∷ lines) j run sure h = absurd run
run_kept law old new (asked ∷ calls) [] j run sure h = absurd run

-- the journal of a manager from now on
abbrev from_now : Durable → Journal
from_now d =
    record {
      table = newest_table d.manager;
      base = newest_number d.manager;
      front = d.log.device.appended;
      commits = [];
      logged = [];
    }

begins : (d : Durable) → IsJournaled d (from_now d)
begins d =
    record {
      logs = record { commits_fit = tt; numbered = tt; entries = refl };
      newest = refl;
      number = omega arith;
      said = tt;
      appended = sym (append-nil d.log.device.appended);
    }

pub run_is_journaled : ACommitIsJournaled → ARunIsJournaled
run_is_journaled law old new calls lines run sure =
    let kept = run_kept law old new calls lines (from_now old.journaled.durable) run sure (begins old.journaled.durable) in (
      kept.j,
      kept.is,
      kept.goes_on.table,
      kept.goes_on.base,
      kept.goes_on.front,
      omega (arith, kept.goes_on.commits),
    )
