-- A run goes on by one call, and each open transaction stays one of the manager.
use Rattle.std.proofs.Common.{◌≡◌, ℕ, ◌+◌, ◌-◌, ◌≤◌, Option, Some, None, List, [], ◌∷◌, ◌++◌, length}
use Rattle.std.proofs.Common.{get_or, set, refl, sym, ap, ◌∙◌, subst, arith, ⊎_elim, Result, Ok, Err}
use Rattle.std.specs.Prelude.{IfSome, IsNone, MatchResult, IfNone, IsTrue}
use Rattle.std.proofs.Math.Seq.{get_or-append_seam}
use Rattle.std.specs.List.{All}
use Rattle.std.proofs.lemmas.List.{take-append-le, length-append, length-set}
use Rattle.std.proofs.lemmas.List.Elements.{All-set}
use Rattle.values.specs.Shape.{Columns}
use Rattle.model.specs.declared.write.CommitReply.{CommitReply}
use Rattle.model.specs.declared.write.CommitReply.TheVariants.{Committed, Conflict, TooOld, Full}
use Rattle.model.specs.declared.write.Write.{Write}
use Rattle.model.specs.Effects.{Effects}
use Rattle.model.specs.History.{Record, table_with_all, table_after, commits_with, effects_of_record}
use Rattle.inputs.specs.declared.call.Call.{Call}
use Rattle.inputs.specs.declared.call.Call.TheVariants as call
use Rattle.inputs.specs.declared.call.ClientCall.{ClientCall}
use Rattle.inputs.specs.Typed.{is_typed_call}
use Rattle.pdtcli.specs.declared.reply.Reply.{Reply}
use Rattle.pdtcli.specs.declared.reply.Reply.TheVariants.{Begun, AlreadyOpen, Wrote, KeyColumn, TextTooLong, Row as Shown}
use Rattle.pdtcli.specs.declared.reply.Reply.TheVariants.{Decided, Folded}
use Rattle.pdtcli.specs.declared.reply.Reply.TheVariants.{Cut, NoMemory}
use Rattle.pdtcli.specs.declared.reply.ReplyLine.{ReplyLine}
use Rattle.txn.specs.Txn.{Transaction}
use Rattle.txn.specs.Version.{Lower, alone}
use Rattle.manager.specs.declared.fault.CheckpointFault.{CheckpointFault}
use Rattle.manager.specs.Managed.{Managed, commits_in, IsDecided, IsOwn, begun_at, HasFolded, newest_stable, rebuilt_of, record_of}
use Rattle.manager.specs.Managed.{with_layers, with_record, cut_of}
use Rattle.pdtcli.specs.Run.{Side, SideStep, BeginStep, OpenWriteStep, OpenCommitStep, FoldStep, RebuildStep, State, Step, IsRun}
use Rattle.pdtcli.specs.Ready.{IsReady}
use Rattle.manager.proofs.CallerLemmas.{newest_whole, commits_from-append, own_over, IsOwn-cut_of}

-- ---- a step keeps the transactions of the manager

pub record Keeps (old new : Managed) : Type 0 where
  pub schema : new.schema ≡ old.schema
  pub own : (txn : Transaction) → IsOwn old txn → IsOwn new txn
  -- no record comes into a history that wasn't made
  pub made : old.made + length new.history ≤ length old.history + new.made

pub keeps_same : (old new : Managed) → new ≡ old → Keeps old new
keeps_same old new is = subst (Keeps old) (sym is) (record { schema = refl; own = λ txn h. h; made = omega arith })

-- a commit leaves the tables before it
own_later : (m : Managed) (r : Record) (txn : Transaction) (commits : List Effects) → commits_in (with_record m r) ≡ commits
    → (reply : CommitReply) → (x : Effects) → commits ≡ commits_with (commits_in m) x reply → IsOwn m txn
    → IsOwn (with_record m r) txn
own_later m r txn commits are (Committed n) x is h =
    let longer = are ∙ is in
    let grown = length-append (commits_in m) (x ∷ []) in
    let more = subst (λ (cs : List Effects). length (commits_in m) ≤ length cs) (sym longer) (omega (arith, grown)) in
    let before = take-append-le (txn.begin - m.start.base) (commits_in m) (x ∷ []) (omega (arith, h.begun)) in
    record {
      schema = h.schema;
      limit = h.limit;
      begun = omega (arith, h.begun, more);
      snapshot =
          λ above. h.snapshot above
          ∙ ap (table_with_all m.start.table) (sym before)
          ∙ ap (λ (cs : List Effects). table_after m.start cs txn.begin) (sym longer);
    }
own_later m r txn commits are (Conflict n) x is h =
    subst
    (λ (cs : List Effects).
    (txn.begin ≤ m.start.base + length cs) × (m.start.base ≤ txn.begin → txn.table ≡ table_after m.start cs txn.begin)
    → IsOwn (with_record m r) txn)
    (are ∙ is) (λ k. record { schema = h.schema; limit = h.limit; begun = k.0; snapshot = k.1 }) (h.begun, h.snapshot)
own_later m r txn commits are (TooOld n) x is h =
    subst
    (λ (cs : List Effects).
    (txn.begin ≤ m.start.base + length cs) × (m.start.base ≤ txn.begin → txn.table ≡ table_after m.start cs txn.begin)
    → IsOwn (with_record m r) txn)
    (are ∙ is) (λ k. record { schema = h.schema; limit = h.limit; begun = k.0; snapshot = k.1 }) (h.begun, h.snapshot)
own_later m r txn commits are (Full n) x is h =
    subst
    (λ (cs : List Effects).
    (txn.begin ≤ m.start.base + length cs) × (m.start.base ≤ txn.begin → txn.table ≡ table_after m.start cs txn.begin)
    → IsOwn (with_record m r) txn)
    (are ∙ is) (λ k. record { schema = h.schema; limit = h.limit; begun = k.0; snapshot = k.1 }) (h.begun, h.snapshot)

keeps_record : (m : Managed) (r : Record) → Keeps m (with_record m r)
keeps_record m r = record {
  schema = refl;
  own =
      λ txn h. own_later m r txn (commits_in (with_record m r)) refl r.reply (effects_of_record m.schema m.start (commits_in m) r)
      (commits_from-append m.schema m.start [] m.history r) h;
  made = omega (arith, length-append m.history (r ∷ []));
}

keeps_cut : (m : Managed) → Keeps m (cut_of m)
keeps_cut m = record { schema = refl; own = λ txn h. IsOwn-cut_of m txn h; made = omega arith }

keeps_over : (old m : Managed) (layers : Lower) → Keeps old m → Keeps old (with_layers m layers)
keeps_over old m layers k = record { schema = k.schema; own = λ txn h. own_over m layers txn (k.own txn h); made = k.made }

pub keeps_decided : (m : Managed) (txn : Transaction) (reply : CommitReply) (new : Managed) → IsDecided m txn reply new → Keeps m new
keeps_decided m txn reply new h =
    subst (Keeps m) (sym h.kept)
    (keeps_over m (with_record m (record_of txn reply)) new.layers (keeps_record m (record_of txn reply)))

-- a decided commit keeps the other transactions of the manager
pub own_decided : (m : Managed) (txn : Transaction) (reply : CommitReply) (new : Managed) → IsDecided m txn reply new
    → (other : Transaction) → IsOwn m other → IsOwn new other
own_decided m txn reply new h other own = (keeps_decided m txn reply new h).own other own

-- what a side keeps by a step
pub record SideKeeps (old new : Side) : Type 0 where
  pub keeps : Keeps old.manager new.manager
  pub own : IfSome new.own (IsOwn new.manager)

side_same : (old new : Side) → IfSome old.own (IsOwn old.manager) → new ≡ old → SideKeeps old new
side_same old new own is = subst (SideKeeps old) (sym is) (record { keeps = keeps_same old.manager old.manager refl; own = own })

side_with : (old : Side) (own : Option Transaction) → IfSome own (IsOwn old.manager) → (new : Side)
    → new ≡ record old { own = own } → SideKeeps old new
side_with old own h new is = subst (SideKeeps old) (sym is) (record { keeps = keeps_same old.manager old.manager refl; own = h })

begun_own : (m : Managed) (client : ℕ) → IsOwn m (begun_at m client)
begun_own m client = record { schema = refl; limit = refl; begun = omega arith; snapshot = λ above. sym (newest_whole m) }

begin_keeps : (client : ℕ) (old new : Side) (reply : Reply) → IfSome old.own (IsOwn old.manager) → BeginStep client old reply new
    → SideKeeps old new
begin_keeps client old new Begun own h = side_with old (Some (begun_at old.manager client)) (begun_own old.manager client) new h.1
begin_keeps client old new AlreadyOpen own h = side_same old new own h.1
begin_keeps client old new NoMemory own h = side_same old new own h.1
begin_keeps client old new reply own h = absurd h

write_keeps : (txn : Transaction) (write : Write) (old new : Side) (reply : Reply) → IsOwn old.manager txn
    → IfSome old.own (IsOwn old.manager) → OpenWriteStep txn write old reply new → SideKeeps old new
write_keeps txn write old new (Wrote r) mine own h =
    side_with old (Some _) (record { schema = mine.schema; limit = mine.limit; begun = mine.begun; snapshot = mine.snapshot }) new
    h.2
write_keeps txn write old new KeyColumn mine own h = side_same old new own h.1
write_keeps txn write old new (TextTooLong n) mine own h = side_same old new own h.1
write_keeps txn write old new NoMemory mine own h = side_same old new own h.1
write_keeps txn write old new reply mine own h = absurd h

is_none : (own : Option Transaction) → IsNone own → own ≡ None
is_none None h = refl
is_none (Some txn) h = cc h

commit_keeps : (txn : Transaction) (old new : Side) (reply : Reply) → IfSome old.own (IsOwn old.manager)
    → OpenCommitStep txn old reply new → SideKeeps old new
commit_keeps txn old new (Decided r) own h =
    record {
      keeps = keeps_decided old.manager txn r new.manager h.0;
      own = subst (λ (o : Option Transaction). IfSome o (IsOwn new.manager)) (sym (is_none new.own h.1)) tt;
    }
commit_keeps txn old new NoMemory own h = side_same old new own h.0
commit_keeps txn old new reply own h = absurd h

cut_own : (m : Managed) (own : Option Transaction) → IfSome own (IsOwn m) → IfSome own (IsOwn (cut_of m))
cut_own m None h = tt
cut_own m (Some txn) h = IsOwn-cut_of m txn h

cut_keeps : (old new : Side) → IfSome old.own (IsOwn old.manager) → new ≡ record old { manager = cut_of old.manager } → SideKeeps old new
cut_keeps old new own is = subst (SideKeeps old) (sym is) (record { keeps = keeps_cut old.manager; own = cut_own old.manager old.own own })

pub if_some : (old new : Managed) → Keeps old new → (own : Option Transaction) → IfSome own (IsOwn old) → IfSome own (IsOwn new)
if_some old new keeps None h = tt
if_some old new keeps (Some txn) h = keeps.own txn h

-- a side whose transaction stays beside a manager that keeps it
pub side_own : (old new : Side) → IfSome old.own (IsOwn old.manager) → new.own ≡ old.own → Keeps old.manager new.manager → SideKeeps old new
side_own old new own same keeps =
    record {
      keeps = keeps;
      own = subst (λ (o : Option Transaction). IfSome o (IsOwn new.manager)) (sym same)
          (if_some old.manager new.manager keeps old.own own);
    }

keeps_layers : (old new : Managed) (layers : Lower) → new ≡ with_layers old layers → Keeps old new
keeps_layers old new layers is = subst (Keeps old) (sym is) (keeps_over old old layers (keeps_same old old refl))

fold_keeps : (old new : Side) (reply : Reply) → IfSome old.own (IsOwn old.manager) → FoldStep old reply new → SideKeeps old new
fold_keeps old new reply own h = side_own old new own h.0 (⊎_elim
    (λ (t : (reply ≡ Folded) × HasFolded old.manager new.manager). keeps_layers old.manager new.manager new.manager.layers t.1.kept)
    (λ (t : (reply ≡ NoMemory) × (new.manager ≡ old.manager)). keeps_same old.manager new.manager t.1)
    h.1)

pub rebuilt_keeps : (old new : Managed) (answer : Result ℕ CheckpointFault)
    → MatchResult answer (λ _. new ≡ rebuilt_of old) (λ _. new ≡ old) → Keeps old new
rebuilt_keeps old new (Ok generation) h = keeps_layers old new (alone (newest_stable old)) h
rebuilt_keeps old new (Err fault) h = keeps_same old new h

rebuild_keeps : (old new : Side) (reply : Reply) → IfSome old.own (IsOwn old.manager) → RebuildStep old reply new → SideKeeps old new
rebuild_keeps old new reply own h = side_own old new own h.0 (rebuilt_keeps old.manager new.manager h.1.0 h.1.2)

-- by the transaction that is open
pub step_keeps : (client : ℕ) (asked : Call) (m : Managed) (mine : Option Transaction) (new : Side) (reply : Reply)
    → IfSome mine (IsOwn m) → SideStep client asked (record { manager = m; own = mine }) reply new
    → SideKeeps (record { manager = m; own = mine }) new
step_keeps client call.Begin m mine new reply own h = begin_keeps client _ new reply own h
step_keeps client (call.Write write) m None new reply own h = side_same _ new own h.1
step_keeps client (call.Write write) m (Some txn) new reply own h = write_keeps txn write _ new reply own own h
step_keeps client (call.Read read) m mine new reply own h = side_same _ new own h.1
step_keeps client call.Commit m None new reply own h = side_same _ new own h.1
step_keeps client call.Commit m (Some txn) new reply own h = commit_keeps txn _ new reply own h
step_keeps client call.Abort m None new reply own h = side_same _ new own h.1
step_keeps client call.Abort m (Some txn) new reply own h = side_with _ None tt new h.1
step_keeps client call.Fold m mine new reply own h = fold_keeps _ new reply own h
step_keeps client call.Checkpoint m mine new reply own h = rebuild_keeps _ new reply own h
step_keeps client call.Cut m mine new reply own h = cut_keeps _ new own h.1

-- the clients are ready for a manager that keeps theirs, with another transaction of one of them
pub ready_with : (schema : Columns) (count : ℕ) (m : Managed) (transactions : List (Option Transaction))
    → IsReady schema count m transactions
    → (client : ℕ) (own : Option Transaction) (new : Managed) → Keeps m new → IfSome own (IsOwn new)
    → IsReady schema count new (set transactions client own)
ready_with schema count m transactions h client own new keeps mine =
    record {
      schema_is = keeps.schema ∙ h.schema_is;
      many = length-set transactions client own ∙ h.many;
      own =
          All-set (λ o. IfSome o (IsOwn new)) transactions client own mine
          (λ k d lt. if_some m new keeps (get_or transactions k d) (h.own k d lt));
    }

-- the clients are ready again
pub ready_again : (schema : Columns) (count : ℕ) (m : Managed) (transactions : List (Option Transaction))
    → IsReady schema count m transactions
    → (client : ℕ) (asked : Call) (mine : Option Transaction) (new : Side) (reply : Reply)
    → IfSome mine (IsOwn m)
    → SideStep client asked (record { manager = m; own = mine }) reply new
    → IsReady schema count new.manager (set transactions client new.own)
ready_again schema count m transactions h client asked mine new reply own step =
    let kept = step_keeps client asked m mine new reply own step in
    ready_with schema count m transactions h client new.own new.manager kept.keeps kept.own

-- and no record has come into the history that wasn't made
pub made_again : (first m : Managed) (client : ℕ) (asked : Call) (mine : Option Transaction) (new : Side) (reply : Reply)
    → IfSome mine (IsOwn m) → first.made + length m.history ≤ length first.history + m.made
    → SideStep client asked (record { manager = m; own = mine }) reply new
    → first.made + length new.manager.history ≤ length first.history + new.manager.made
made_again first m client asked mine new reply own before step =
    let kept = (step_keeps client asked m mine new reply own step).keeps.made in
    omega (arith, before, kept)

-- ---- the calls of a script, one after the other

-- the calls before the next one, itself and those after it are all
pub whole_of : (calls before left rest : List ClientCall) (asked : ClientCall) → left ≡ asked ∷ rest → before ++ left ≡ calls
    → before ++ asked ∷ rest ≡ calls
whole_of calls before left rest asked next split = ap (λ (xs : List ClientCall). before ++ xs) (sym next) ∙ split

-- what holds of all calls holds of the next one
pub next_of : (P : ClientCall → Type 0) (calls before left rest : List ClientCall) (asked : ClientCall)
    → All P calls → left ≡ asked ∷ rest → before ++ left ≡ calls → P asked
next_of P calls before left rest asked all next parts =
    let split = whole_of calls before left rest asked next parts in
    let here : get_or calls (length before) asked ≡ asked =
    ap (λ (xs : List ClientCall). get_or xs (length before) asked) (sym split) ∙ get_or-append_seam before asked rest asked in
    subst P here
    (all (length before) asked (omega (arith, length-append before (asked ∷ rest), ap (λ (xs : List ClientCall). length xs) split)))

-- a call that is typed under the manager's schema is so under that of a transaction of it
pub typed_in : (schema : Columns) (m : Managed) (asked : Call) (mine : Option Transaction) → IsTrue (is_typed_call schema asked)
    → m.schema ≡ schema → IfSome mine (IsOwn m) → IfSome mine (λ txn. IsTrue (is_typed_call txn.schema asked))
typed_in schema m asked None typed same own = tt
typed_in schema m asked (Some txn) typed same own =
    subst (λ (s : Columns). IsTrue (is_typed_call s asked)) (sym (own.schema ∙ same)) typed

pub none_left : (next : Option ClientCall) (P : Type 0) → IfNone next P → ((asked : ClientCall) → next ≡ Some asked → ⊥) → P
none_left None P h none = h
none_left (Some asked) P h none = absurd (none asked refl)

-- ---- a run goes on

pub IsRun-more : (old mid new : State) (calls : List ClientCall) (lines : List ReplyLine) (asked : ClientCall) (line : ReplyLine)
    → IsRun old calls lines mid → Step mid asked line new → IsRun old (calls ++ asked ∷ []) (lines ++ line ∷ []) new
IsRun-more old mid new [] [] asked line r s = (new, subst (λ (st : State). Step st asked line new) r s, refl)
IsRun-more old mid new (c ∷ calls) (l ∷ lines) asked line r s = (r.0, r.1, IsRun-more r.0 mid new calls lines asked line r.2 s)
IsRun-more old mid new [] (l ∷ lines) asked line r s = absurd r
IsRun-more old mid new (c ∷ calls) [] asked line r s = absurd r
