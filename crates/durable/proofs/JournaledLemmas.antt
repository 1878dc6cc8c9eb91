-- What a journal has after a reply, and after a crash.
use Rattle.std.proofs.Common.{◌≡◌, ℕ, suc, ◌+◌, ◌-◌, ◌<◌, ◌≤◌, ◌^◌, Bool, false, cond, List, [], ◌∷◌, ◌++◌, length, map, take, refl, sym, ap, ◌∙◌, subst, arith, length-append, Ok}
use Rattle.std.specs.Prelude.{nat_lt}
use Rattle.std.specs.List.{list_any}
use Rattle.std.proofs.Math.Seq.{take-append-add, take-length}
use Rattle.std.proofs.lemmas.List.{append-nil, append_assoc, length-map, map-append}
use Rattle.std.proofs.lemmas.List.Concat.{flat_map-cons}
use Rattle.values.specs.Shape.{Columns}
use Rattle.codec.specs.Reading.{decoded, entries_in, entries_or_none}
use Rattle.model.specs.declared.entry.Entry.{Entry}
use Rattle.model.specs.declared.write.CommitReply.{CommitReply}
use Rattle.model.specs.declared.write.CommitReply.TheVariants.{Committed, Conflict, TooOld, Full}
use Rattle.model.specs.Clashes.{conflicts}
use Rattle.model.specs.Effects.{AreOver, Effects, table_with}
use Rattle.model.specs.Entries.{canonical_entries}
use Rattle.model.specs.History.{Record, Start, commits_from, commits_with, effects_of_record, table_with_all}
use Rattle.model.specs.Laws.{AreCommits, trees_of}
use Rattle.model.specs.Table.{Table}
use Rattle.journal.specs.Frame.{AreLogged, Logged, frame_bytes, journal_bytes}
use Rattle.journal.specs.Laws.{AJournalGoesOn}
use Rattle.journal.specs.Crash.{IsLeft}
use Rattle.logging.specs.Laws.{ADeviceLeavesAFrame}
use Rattle.logging.specs.Log.{Log}
use Rattle.txn.specs.Txn.{IsTransaction, Transaction, effects_of}
use Rattle.manager.specs.Managed.{IsDecided, IsManaged, IsOwn, Managed, commits_in, commits_since, is_too_old, newest_number, newest_table, record_of, reply_due}
use Rattle.manager.proofs.CallerLemmas.{above_base, commits_from-append, granted_over, granted_when, recorded_is, same_number, table_with_all-one}
use Rattle.replay.specs.Recovered.{Logs}
use Rattle.replay.specs.Replayed.{AreSaid}
use Rattle.durable.specs.Durable.{Durable, IsLogged, IsReadAgain, logged_of}
use Rattle.durable.specs.Journaled.{IsJournaled, Journal, journal_with}
use Rattle.durable.specs.Laws.{ACommitIsJournaled, ACrashInACommit, ACrashLeavesTheCommits}

-- ---- commits, and one more

commits-append : (schema : Columns) (t : Table) (commits : List Effects) (x : Effects) → AreCommits schema t commits
    → AreOver schema (table_with_all t commits) x → AreCommits schema t (commits ++ x ∷ [])
commits-append schema t [] x h over = (over, tt)
commits-append schema t (y ∷ commits) x h over = (h.0, commits-append schema (table_with t y) commits x h.1 over)

trees-append : (schema : Columns) (t : Table) (commits : List Effects) (x : Effects)
    → trees_of schema t (commits ++ x ∷ []) ≡ trees_of schema t commits ++ canonical_entries (table_with_all t commits) x ∷ []
trees-append schema t [] x = refl
trees-append schema t (y ∷ commits) x =
    ap (λ (es : List (List Entry)). canonical_entries t y ∷ es) (trees-append schema (table_with t y) commits x)

trees-length : (schema : Columns) (t : Table) (commits : List Effects) → length (trees_of schema t commits) ≡ length commits
trees-length schema t [] = refl
trees-length schema t (y ∷ commits) = ap suc (trees-length schema (table_with t y) commits)

-- as many frames as commits
as_many : (decode : List ℕ → List Entry) (schema : Columns) (base : ℕ) (t : Table) (commits : List Effects) (logged : List Logged)
    → Logs decode schema base t commits logged → length logged ≡ length commits
as_many decode schema base t commits logged logs =
    sym (length-map _ _) ∙ ap (λ (es : List (List Entry)). length es) logs.entries ∙ trees-length schema t commits

-- no more commits than records
one_at_most : (commits : List Effects) (x : Effects) (reply : CommitReply) → length (commits_with commits x reply) ≤ suc (length commits)
one_at_most commits x (Committed n) = let e = length-append commits (x ∷ []) in omega (arith, e)
one_at_most commits x (Conflict n) = omega arith
one_at_most commits x (TooOld n) = omega arith
one_at_most commits x (Full n) = omega arith

commits_few : (schema : Columns) (start : Start) (commits : List Effects) (history : List Record)
    → length (commits_from schema start commits history) ≤ length commits + length history
commits_few schema start commits [] = omega arith
commits_few schema start commits (r ∷ history) =
    let x = effects_of_record schema start commits r in
    let one = one_at_most commits x r.reply in
    let rest = commits_few schema start (commits_with commits x r.reply) history in
    omega (arith, one, rest)

number_small : (m : Managed) → IsManaged m → suc (newest_number m) < 2 ^ 63
number_small m h =
    let few = commits_few m.schema m.start [] m.history in
    let made = h.counted in
    let most = h.few in
    omega (arith, few, made, most)

-- ---- a manager after a reply

module _ (m new : Managed) (txn : Transaction) (reply : CommitReply) (d : IsDecided m txn reply new) where
  schema_is : new.schema ≡ m.schema
  schema_is = ap (λ (x : Managed). x.schema) d.kept

  start_is : new.start ≡ m.start
  start_is = ap (λ (x : Managed). x.start) d.kept

  commits_are :
      commits_in new ≡ commits_with (commits_in m) (effects_of_record m.schema m.start (commits_in m) (record_of txn reply)) reply
  commits_are = ap commits_in d.kept ∙ commits_from-append m.schema m.start [] m.history (record_of txn reply)

  -- where the commits are the same
  same_table : commits_in new ≡ commits_in m → newest_table new ≡ newest_table m
  same_table e = λ i. table_with_all (start_is i).table (e i)

  same_count : commits_in new ≡ commits_in m → newest_number new ≡ newest_number m
  same_count e = λ i. (start_is i).base + length (e i)

-- a commit that is granted
module _ (m : Managed) (txn : Transaction) (n : ℕ) (due : Committed n ≡ reply_due m txn) where
  abbrev clash : Bool
  clash = list_any (conflicts m.start.rule (effects_of txn)) (commits_since m txn)

  abbrev full : Bool
  full = nat_lt m.start.limit (length (table_with (newest_table m) (effects_of txn)))

  tests : (is_too_old m txn ≡ false) × ((clash ≡ false) × (full ≡ false))
  tests = granted_when (is_too_old m txn) clash full (newest_number m) n due

  number_is : n ≡ suc (newest_number m)
  number_is =
      same_number n (suc (newest_number m))
      (due
      ∙ (λ i. cond (tests.0 i) (TooOld (newest_number m))
      (cond (tests.1.0 i) (Conflict (newest_number m)) (cond (tests.1.1 i) (Full (newest_number m)) (Committed (suc (newest_number m)))))))

module _ (m new : Managed) (txn : Transaction) (n : ℕ) (d : IsDecided m txn (Committed n) new) (h : IsManaged m) (k : IsTransaction txn)
    (own : IsOwn m txn) where
  abbrev x : Effects
  x = effects_of txn

  more : commits_in new ≡ commits_in m ++ x ∷ []
  more =
      commits_are m new txn (Committed n) d
      ∙ ap (λ (e : Effects). commits_in m ++ e ∷ [])
      (recorded_is m h txn k own (Committed n) d.due (above_base m txn own (tests m txn n d.due).0))

  next_table : newest_table new ≡ table_with (newest_table m) x
  next_table =
      (λ i. table_with_all (start_is m new txn (Committed n) d i).table (more i)) ∙ table_with_all-one m.start.table (commits_in m) x

  next_number : newest_number new ≡ suc (newest_number m)
  next_number =
      let one = length-append (commits_in m) (x ∷ []) in
      (λ i. (start_is m new txn (Committed n) d i).base + length (more i)) ∙ omega (arith, one)

-- ---- the journal after a reply

abbrev payloads_of : List Logged → List (List ℕ)
payloads_of logged = map (λ l. l.payload) logged

-- payloads that say commits, and one that says one commit more
said-append : (schema : Columns) (table : ℕ) (t : Table) (commits : List Effects) (payloads : List (List ℕ)) (x : Effects)
    (payload : List ℕ)
    → AreSaid schema table t commits payloads → entries_in schema table payload ≡ Ok (canonical_entries (table_with_all t commits) x)
    → AreSaid schema table t (commits ++ x ∷ []) (payloads ++ payload ∷ [])
said-append schema table t [] [] x payload h one = (one, tt)
said-append schema table t (c ∷ commits) (p ∷ payloads) x payload h one =
    (h.0, said-append schema table (table_with t c) commits payloads x payload h.1 one)
said-append schema table t [] (p ∷ payloads) x payload h one = absurd h
said-append schema table t (c ∷ commits) [] x payload h one = absurd h

left_alone : (old new : Durable) (txn : Transaction) (reply : CommitReply) (j : Journal) → IsJournaled old j
    → IsDecided old.manager txn reply new.manager → commits_in new.manager ≡ commits_in old.manager → new.table ≡ old.table → new.log ≡ old.log
    → IsJournaled new j
left_alone old new txn reply j is d same table log = record {
  logs =
      subst (λ (e : Columns × ℕ). Logs (decoded e.0 e.1) e.0 j.base j.table j.commits j.logged)
      (sym (λ i. (schema_is old.manager new.manager txn reply d i, table i))) is.logs;
  newest = same_table old.manager new.manager txn reply d same ∙ is.newest;
  number = same_count old.manager new.manager txn reply d same ∙ is.number;
  said =
      subst (λ (e : Columns × ℕ). AreSaid e.0 e.1 j.table j.commits (payloads_of j.logged))
      (sym (λ i. (schema_is old.manager new.manager txn reply d i, table i))) is.said;
  appended =
      ap (λ (l : Log). l.device.appended) log ∙ is.appended ∙ ap (λ (l : Log). j.front ++ journal_bytes l.seed j.logged) (sym log);
}

alone : (seed : ℕ) (l : Logged) → journal_bytes seed (l ∷ []) ≡ frame_bytes seed l
alone seed l = flat_map-cons (frame_bytes seed) l [] ∙ append-nil (frame_bytes seed l)

-- the frames of the commits, with one more commit that is granted
module _ (goes_on : AJournalGoesOn) (old : Durable) (txn : Transaction) (n : ℕ) (j : Journal) (h : IsManaged old.manager)
    (k : IsTransaction txn) (own : IsOwn old.manager txn) (is : IsJournaled old j) (due : Committed n ≡ reply_due old.manager txn)
    (again : IsReadAgain old txn (Committed n)) where
  abbrev l : Logged
  l = logged_of old txn n

  next_logs :
      Logs (decoded old.manager.schema old.table) old.manager.schema j.base j.table (j.commits ++ effects_of txn ∷ []) (j.logged ++ l ∷ [])
      × (journal_bytes old.log.seed (j.logged ++ l ∷ []) ≡ journal_bytes old.log.seed j.logged ++ frame_bytes old.log.seed l)
  next_logs =
      let m = old.manager in
      let x = effects_of txn in
      let schema = m.schema in
      let decode = decoded schema old.table in
      let count = as_many decode schema j.base j.table j.commits j.logged is.logs in
      let number = number_is m txn n due in
      let small = number_small m h in
      let at = is.number in
      let one : AreLogged ((j.base + 1) + length j.logged) (l ∷ []) = (
        omega (arith, number, at, count),
        record { number = omega (arith, number, small); synced = omega (arith, number, small); size = again.0 },
        tt,
      ) in
      let both = goes_on old.log.seed (j.base + 1) j.logged (l ∷ []) is.logs.numbered one in
      let over : AreOver schema (table_with_all j.table j.commits) x =
      subst (λ (t : Table). AreOver schema t x) is.newest (granted_over m txn h k own n due) in
      let said : decode l.payload ≡ canonical_entries (table_with_all j.table j.commits) x =
      ap entries_or_none again.1 ∙ ap (λ (t : Table). canonical_entries t x) is.newest in (
        record {
          commits_fit = commits-append schema j.table j.commits x is.logs.commits_fit over;
          numbered = both.0;
          entries =
              map-append (λ (f : Logged). decode f.payload) j.logged (l ∷ [])
              ∙ (λ i. is.logs.entries i ++ said i ∷ [])
              ∙ sym (trees-append schema j.table j.commits x);
        },
        both.1 ∙ ap (λ (bytes : List ℕ). journal_bytes old.log.seed j.logged ++ bytes) (alone old.log.seed l),
      )

  next_said : AreSaid old.manager.schema old.table j.table (j.commits ++ effects_of txn ∷ []) (payloads_of (j.logged ++ l ∷ []))
  next_said =
      subst (AreSaid old.manager.schema old.table j.table (j.commits ++ effects_of txn ∷ []))
      (sym (map-append (λ (f : Logged). f.payload) j.logged (l ∷ [])))
      (said-append old.manager.schema old.table j.table j.commits (payloads_of j.logged) (effects_of txn) l.payload is.said
      (again.1 ∙ ap (λ (t : Table). Ok (canonical_entries t (effects_of txn))) is.newest))

joins : AJournalGoesOn → (old new : Durable) (txn : Transaction) (n : ℕ) (j : Journal) → IsManaged old.manager → IsTransaction txn
    → IsOwn old.manager txn → IsJournaled old j → IsDecided old.manager txn (Committed n) new.manager → IsLogged old txn (Committed n) new
    → IsJournaled new (journal_with old txn (Committed n) j)
joins goes_on old new txn n j h k own is d told =
    let m = old.manager in
    let x = effects_of txn in
    let l = logged_of old txn n in
    let logs = next_logs goes_on old txn n j h k own is d.due told.again in
    let at = is.number in
    let longer = length-append j.commits (x ∷ []) in
    record {
      logs =
          subst (λ (e : Columns × ℕ). Logs (decoded e.0 e.1) e.0 j.base j.table (j.commits ++ x ∷ []) (j.logged ++ l ∷ []))
          (sym (λ i. (schema_is m new.manager txn (Committed n) d i, told.table i))) logs.0;
      newest =
          next_table m new.manager txn n d h k own
          ∙ ap (λ (t : Table). table_with t x) is.newest
          ∙ sym (table_with_all-one j.table j.commits x);
      number = next_number m new.manager txn n d h k own ∙ omega (arith, at, longer);
      said =
          subst (λ (e : Columns × ℕ). AreSaid e.0 e.1 j.table (j.commits ++ x ∷ []) (payloads_of (j.logged ++ l ∷ [])))
          (sym (λ i. (schema_is m new.manager txn (Committed n) d i, told.table i)))
          (next_said goes_on old txn n j h k own is d.due told.again);
      appended =
          ap (λ (v : Log). v.device.appended) told.log
          ∙ ap (λ (bytes : List ℕ). bytes ++ frame_bytes old.log.seed l) is.appended
          ∙ append_assoc j.front (journal_bytes old.log.seed j.logged) (frame_bytes old.log.seed l)
          ∙ ap (λ (bytes : List ℕ). j.front ++ bytes) (sym logs.1)
          ∙ ap (λ (v : Log). j.front ++ journal_bytes v.seed (j.logged ++ l ∷ [])) (sym told.log);
    }

pub a_commit_is_journaled : AJournalGoesOn → ACommitIsJournaled
a_commit_is_journaled goes_on old new txn (Committed n) j h k own is d told = joins goes_on old new txn n j h k own is d told
a_commit_is_journaled goes_on old new txn (Conflict n) j h k own is d told =
    left_alone old new txn (Conflict n) j is d (commits_are old.manager new.manager txn (Conflict n) d) told.table told.log
a_commit_is_journaled goes_on old new txn (TooOld n) j h k own is d told =
    left_alone old new txn (TooOld n) j is d (commits_are old.manager new.manager txn (TooOld n) d) told.table told.log
a_commit_is_journaled goes_on old new txn (Full n) j h k own is d told =
    left_alone old new txn (Full n) j is d (commits_are old.manager new.manager txn (Full n) d) told.table told.log

-- ---- after a crash

take-whole : {A : Type 0} (n : ℕ) (xs : List A) → n ≡ length xs → take n xs ≡ xs
take-whole n xs e = ap (λ k. take k xs) e ∙ take-length xs

pub a_crash_leaves_the_commits : ACrashLeavesTheCommits
a_crash_leaves_the_commits d j bytes is small few all left =
    let seed = d.log.seed in
    let frames = journal_bytes seed j.logged in
    let count = as_many (decoded d.manager.schema d.table) d.manager.schema j.base j.table j.commits j.logged is.logs in
    let kept = left.kept in
    let within = left.within in
    let size : left.size ≡ length d.log.device.appended = omega (arith, all, kept, within) in
    let each : take (length j.commits) j.logged ≡ j.logged = take-whole (length j.commits) j.logged (sym count) in
    let same : length (journal_bytes seed (take (length j.commits) j.logged)) ≡ length frames =
    ap (λ (ls : List Logged). length (journal_bytes seed ls)) each in (
      left.spelt
          ∙ ap (λ (b : List ℕ). b ++ left.other) (take-whole left.size d.log.device.appended size ∙ is.appended)
          ∙ append_assoc j.front frames left.other,
      λ chance. (
        record {
          small = small;
          logged = j.logged;
          logs = is.logs;
          few = few;
          left = record {
            few = omega (arith, count);
            size = length frames;
            other = left.other;
            kept = omega (arith, same);
            spelt = ap (λ (b : List ℕ). b ++ left.other) (sym (take-length frames));
            torn = chance.torn;
            silent = chance.silent;
          };
        },
        is.said,
      ),
    )

-- what a device leaves of bytes behind others that are safe
behind : (front bytes left : List ℕ) (size : ℕ) → length front ≤ size
    → take size (front ++ bytes) ++ left ≡ front ++ (take (size - length front) bytes ++ left)
behind front bytes left size le =
    let split : size ≡ length front + (size - length front) = omega (arith, le) in
    ap (λ (n : ℕ). take n (front ++ bytes) ++ left) split
    ∙ ap (λ (b : List ℕ). b ++ left) (take-append-add front bytes (size - length front))
    ∙ append_assoc front (take (size - length front) bytes) left

pub a_crash_in_a_commit : AJournalGoesOn → ADeviceLeavesAFrame → ACrashInACommit
a_crash_in_a_commit goes_on leaves d txn n j taken safe bytes h k own is due again small few all left =
    let seed = d.log.seed in
    let l = logged_of d txn n in
    let frames = journal_bytes seed j.logged in
    let part = take taken (frame_bytes seed l) in
    let count = as_many (decoded d.manager.schema d.table) d.manager.schema j.base j.table j.commits j.logged is.logs in
    let kept = left.kept in
    let within = left.within in
    let r = left.size - length j.front in
    let rest = take r (frames ++ part) ++ left.other in
    let whole : d.log.device.appended ++ part ≡ j.front ++ (frames ++ part) =
    ap (λ (b : List ℕ). b ++ part) is.appended ∙ append_assoc j.front frames part in
    let long : length d.log.device.appended ≡ length j.front + length frames =
    ap (λ (b : List ℕ). length b) is.appended ∙ length-append j.front frames in
    let sized : length (d.log.device.appended ++ part) ≡ length j.front + length (frames ++ part) =
    ap (λ (b : List ℕ). length b) whole ∙ length-append j.front (frames ++ part) in
    let longer = length-append j.logged (l ∷ []) in (
      rest,
      left.spelt
          ∙ ap (λ (b : List ℕ). take left.size b ++ left.other) whole
          ∙ behind j.front (frames ++ part) left.other left.size (omega (arith, kept, all, long)),
      λ chance. (
        record {
          small = small;
          logged = j.logged ++ l ∷ [];
          logs = (next_logs goes_on d txn n j h k own is due again).0;
          few = omega (arith, few, longer);
          left =
              subst (λ (s : ℕ). IsLeft seed (j.base + 1) (j.logged ++ l ∷ []) s rest) count
              (leaves seed (j.base + 1) j.logged l taken (length frames) rest (omega arith)
              (record {
                size = r;
                other = left.other;
                kept = omega (arith, kept, all, long);
                within = omega (arith, within, sized);
                spelt = refl;
              })
              chance);
        },
        next_said goes_on d txn n j h k own is due again,
      ),
    )
