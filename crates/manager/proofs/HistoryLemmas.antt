-- What a manager's history comes to, record by record.
use Rattle.std.proofs.Common.{◌≡◌, ℕ, zero, suc, ◌+◌, ◌-◌, ◌<◌, ◌≤◌, ◌^◌, Bool, true, false, cond, List, [], ◌∷◌, ◌++◌, length, take, drop, refl, sym, ap, ◌∙◌, subst, arith}
use Rattle.std.specs.Prelude.{nat_lt}
use Rattle.std.specs.List.{list_all, list_any}
use Rattle.std.proofs.lemmas.Bool.Decides.{nat_tests}
use Rattle.std.proofs.lemmas.List.{length-append}
use Rattle.values.specs.Shape.{Columns}
use Rattle.model.specs.declared.write.CommitReply.{CommitReply}
use Rattle.model.specs.declared.write.CommitReply.TheVariants.{Committed, Conflict, TooOld, Full}
use Rattle.model.specs.Table.{Table, IsTable}
use Rattle.model.specs.Effects.{Effects, AreOver, table_with}
use Rattle.model.specs.Clashes.{conflicts}
use Rattle.model.specs.Writes.{write_fits_schema, replies_to, effects_after_all}
use Rattle.model.specs.Laws.{AreCommits}
use Rattle.model.specs.History.{Start, Record, table_with_all, table_after, due_reply, commits_with, commits_after, commits_from, effects_of_record, IsLegalRecord, IsLegalFrom}
use Rattle.model.proofs.CallerLemmas.{fits_newest, commits_fit, length-table_after, due_reply-cut, AreCommits-drop, table_with_all-drop, left_false, right_false}
use Rattle.txn.specs.Txn.{Transaction, effects_of, asked_of, IsTransaction}
use Rattle.txn.specs.Version.{Lower}
use Rattle.txn.proofs.CallerLemmas.{over}
use Rattle.manager.specs.Managed.{Managed, commits_in, newest_table, newest_number, IsManaged, IsOwn, is_too_old, commits_since, reply_due, record_of, with_record, with_layers}
use Rattle.manager.specs.Prepared.{LeavesTable}

-- as many elements as a list has are the list
pub take_length : {A : Type 0} (xs : List A) → take (length xs) xs ≡ xs
take_length [] = refl
take_length (x ∷ xs) = ap (λ ys. x ∷ ys) (take_length xs)

pub take_nothing : {A : Type 0} (n : ℕ) → take {A = A} n [] ≡ []
take_nothing zero = refl
take_nothing (suc n) = refl

-- commits after the first j, as far as k of them
pub table_with_all-later : (t : Table) (commits : List Effects) (j k : ℕ) →
    table_with_all (table_with_all t (take j commits)) (take k (drop j commits)) ≡ table_with_all t (take (j + k) commits)
table_with_all-later t commits zero k = let e : k ≡ 0 + k = omega arith in ap (λ n. table_with_all t (take n commits)) e
table_with_all-later t [] (suc j) zero = sym (ap (table_with_all t) (take_nothing (suc j + 0)))
table_with_all-later t [] (suc j) (suc k) = sym (ap (table_with_all t) (take_nothing (suc j + suc k)))
table_with_all-later t (x ∷ commits) (suc j) k =
    let e : suc (j + k) ≡ suc j + k = omega arith in
    table_with_all-later (table_with t x) commits j k ∙ ap (λ n. table_with_all t (take n (x ∷ commits))) e

-- one commit more is applied to the table after the others
pub table_with_all-one : (t : Table) (commits : List Effects) (x : Effects)
    → table_with_all t (commits ++ x ∷ []) ≡ table_with (table_with_all t commits) x
table_with_all-one t [] x = refl
table_with_all-one t (y ∷ commits) x = table_with_all-one (table_with t y) commits x

-- ---- the history

module _ (schema : Columns) (start : Start) where
  one_at_most : (commits : List Effects) (x : Effects) (reply : CommitReply) → length (commits_with commits x reply) ≤ suc (length commits)
  one_at_most commits x (Committed n) = let e = length-append commits (x ∷ []) in omega (arith, e)
  one_at_most commits x (Conflict n) = omega arith
  one_at_most commits x (TooOld n) = omega arith
  one_at_most commits x (Full n) = omega arith

  -- a reply takes no commit away
  pub none_taken : (commits : List Effects) (x : Effects) (reply : CommitReply) → length commits ≤ length (commits_with commits x reply)
  none_taken commits x (Committed n) = let e = length-append commits (x ∷ []) in omega (arith, e)
  none_taken commits x (Conflict n) = omega arith
  none_taken commits x (TooOld n) = omega arith
  none_taken commits x (Full n) = omega arith

  -- no more commits than records
  commits_few : (commits : List Effects) (history : List Record)
      → length (commits_from schema start commits history) ≤ length commits + length history
  commits_few commits [] = omega arith
  commits_few commits (r ∷ history) =
      let one = one_at_most commits (effects_of_record schema start commits r) r.reply in
      let rest = commits_few (commits_after schema start commits r) history in
      omega (arith, one, rest)

  IsLegalFrom-append : (commits : List Effects) (history : List Record) (r : Record) → IsLegalFrom schema start commits history →
      IsLegalRecord schema start (commits_from schema start commits history) r → IsLegalFrom schema start commits (history ++ r ∷ [])
  IsLegalFrom-append commits [] r h k = (k, tt)
  IsLegalFrom-append commits (s ∷ history) r h k = (h.0, IsLegalFrom-append (commits_after schema start commits s) history r h.1 k)

  -- the commits of one record more are those after it
  pub commits_from-append : (commits : List Effects) (history : List Record) (r : Record) →
      commits_from schema start commits (history ++ r ∷ []) ≡ commits_after schema start (commits_from schema start commits history) r
  commits_from-append commits [] r = refl
  commits_from-append commits (s ∷ history) r = commits_from-append (commits_after schema start commits s) history r

-- the table of the last number is the newest
pub newest_whole : (m : Managed) → table_after m.start (commits_in m) (newest_number m) ≡ newest_table m
newest_whole m =
    let e : (m.start.base + length (commits_in m)) - m.start.base ≡ length (commits_in m) = omega arith in
    ap (λ n. table_with_all m.start.table (take n (commits_in m))) e ∙ ap (table_with_all m.start.table) (take_length (commits_in m))

module _ (m : Managed) (h : IsManaged m) where
  -- each commit is over the table that it found
  pub each_fits : AreCommits m.schema m.start.table (commits_in m)
  each_fits = commits_fit m.schema m.start m.history h.table h.legal

  -- no table has more rows than the limit
  pub within_after : (k : ℕ) → length (table_with_all m.start.table (take k (commits_in m))) ≤ m.start.limit
  within_after k =
      let e : (m.start.base + k) - m.start.base ≡ k = omega arith in
      subst (λ j. length (table_with_all m.start.table (take j (commits_in m))) ≤ m.start.limit) e
      (length-table_after m.schema m.start m.history (m.start.base + k) h.within h.legal)

  -- the newest table has no more rows than the limit
  pub newest_within : length (newest_table m) ≤ m.start.limit
  newest_within =
      subst (λ (cs : List Effects). length (table_with_all m.start.table cs) ≤ m.start.limit) (take_length (commits_in m))
      (within_after (length (commits_in m)))

  -- numbers are no more than the records made
  pub number_fits : newest_number m ≤ m.made
  number_fits = let few = commits_few m.schema m.start [] m.history in let made = h.counted in omega (arith, few, made)

-- ---- a transaction of the manager

-- a test that fails
lt_false : (a b : ℕ) → nat_lt a b ≡ false → b ≤ a
lt_false a b h = grind (arith, nat_tests)

module _ (m : Managed) (txn : Transaction) (own : IsOwn m txn) (recent : is_too_old m txn ≡ false) where
  -- a transaction that is not too old begins at the base or later
  pub above_base : m.start.base ≤ txn.begin
  above_base = lt_false txn.begin m.start.base (left_false _ _ recent)

  -- so many commits come after its begin, none but kept ones
  pub since_few : newest_number m - txn.begin ≤ m.start.recent
  since_few = lt_false m.start.recent (newest_number m - txn.begin) (right_false (nat_lt txn.begin m.start.base) _ recent)

  pub snapshot_is : table_with_all m.start.table (take (txn.begin - m.start.base) (commits_in m)) ≡ txn.table
  snapshot_is = sym (own.snapshot above_base)

  module _ (h : IsManaged m) (k : IsTransaction txn) where
    pub over_snapshot : AreOver m.schema txn.table (effects_of txn)
    over_snapshot = subst (λ (s : Columns). AreOver s txn.table (effects_of txn)) own.schema (over txn k)

    pub commits_since_fit : AreCommits m.schema txn.table (commits_since m txn)
    commits_since_fit = subst (λ (t : Table). AreCommits m.schema t (commits_since m txn)) snapshot_is
        (AreCommits-drop m.schema m.start.table (commits_in m) (txn.begin - m.start.base) (each_fits m h))

    pub since_newest : table_with_all txn.table (commits_since m txn) ≡ newest_table m
    since_newest =
        sym (ap (λ (t : Table). table_with_all t (commits_since m txn)) snapshot_is)
        ∙ table_with_all-drop m.start.table (commits_in m) (txn.begin - m.start.base)

    pub since_within : (j : ℕ) → length (table_with_all txn.table (take j (commits_since m txn))) ≤ m.start.limit
    since_within j =
        subst (λ (t : Table). length (table_with_all t (take j (commits_since m txn))) ≤ m.start.limit) snapshot_is
        (subst (λ (t : Table). length t ≤ m.start.limit)
        (sym (table_with_all-later m.start.table (commits_in m) (txn.begin - m.start.base) j))
        (within_after m h ((txn.begin - m.start.base) + j)))

    -- where it conflicts with none of them its effects fit the newest table
    pub over_newest : list_any (conflicts m.start.rule (effects_of txn)) (commits_since m txn) ≡ false
        → AreOver m.schema (newest_table m) (effects_of txn)
    over_newest clear =
        subst (λ (t : Table). AreOver m.schema t (effects_of txn)) since_newest
        (fits_newest m.schema m.start.rule txn.table (effects_of txn) (commits_since m txn) over_snapshot commits_since_fit clear)

-- ---- one record more

-- a reply that leaves the table leaves the commits
commits_with-refused : (commits : List Effects) (x : Effects) (reply : CommitReply) → LeavesTable reply
    → commits_with commits x reply ≡ commits
commits_with-refused commits x (Committed n) h = absurd h
commits_with-refused commits x (Conflict n) h = refl
commits_with-refused commits x (TooOld n) h = refl
commits_with-refused commits x (Full n) h = refl

-- a commit that is granted isn't too old, conflicts with none, and keeps the limit
pub granted_when : (old clash full : Bool) (n k : ℕ)
    → Committed k ≡ cond old (TooOld n) (cond clash (Conflict n) (cond full (Full n) (Committed (suc n)))) →
    (old ≡ false) × ((clash ≡ false) × (full ≡ false))
granted_when true clash full n k h = cc h
granted_when false true full n k h = cc h
granted_when false false true n k h = cc h
granted_when false false false n k h = (refl, (refl, refl))

-- what a manager keeps isn't about its layers
pub managed_over : (m : Managed) (l : Lower) → IsManaged m → IsManaged (with_layers m l)
managed_over m l h = record {
  lawful = h.lawful;
  table = h.table;
  within = h.within;
  limited = h.limited;
  legal = h.legal;
  counted = h.counted;
  few = h.few;
  based = h.based;
  reached = h.reached;
}

-- nor is a transaction of it
pub own_over : (m : Managed) (l : Lower) (txn : Transaction) → IsOwn m txn → IsOwn (with_layers m l) txn
own_over m l txn own = record { schema = own.schema; limit = own.limit; begun = own.begun; snapshot = own.snapshot }

module _ (m : Managed) (h : IsManaged m) (txn : Transaction) (k : IsTransaction txn) (own : IsOwn m txn) (reply : CommitReply)
    (due : reply ≡ reply_due m txn) where
  -- the effects of its record are its own, from the base on
  pub recorded_is : m.start.base ≤ txn.begin → effects_of_record m.schema m.start (commits_in m) (record_of txn reply) ≡ effects_of txn
  recorded_is above = sym (λ i. effects_after_all (own.schema i).key_cols (own.limit i) (own.snapshot above i) [] (asked_of txn))

  due_as_recorded :
      reply_due m txn
      ≡ due_reply m.start (commits_in m) txn.begin (effects_of_record m.schema m.start (commits_in m) (record_of txn reply))
  due_as_recorded = by (nat_lt txn.begin m.start.base) refl
    where
      below : nat_lt txn.begin m.start.base ≡ true → txn.begin < m.start.base
      below e = grind (arith, nat_tests)

      by : (b : Bool) → nat_lt txn.begin m.start.base ≡ b →
          reply_due m txn
          ≡ due_reply m.start (commits_in m) txn.begin (effects_of_record m.schema m.start (commits_in m) (record_of txn reply))
      by true e =
          due_reply-cut m.schema m.start (commits_in m) txn.begin (effects_of txn) (below e)
          ∙ sym (due_reply-cut m.schema m.start (commits_in m) txn.begin
          (effects_of_record m.schema m.start (commits_in m) (record_of txn reply)) (below e))
      by false e = ap (due_reply m.start (commits_in m) txn.begin) (sym (recorded_is (lt_false txn.begin m.start.base e)))

  legal_record : IsLegalRecord m.schema m.start (commits_in m) (record_of txn reply)
  legal_record = record {
    begun = own.begun;
    fitting = ap (λ (s : Columns). list_all (write_fits_schema s) (asked_of txn)) (sym own.schema) ∙ k.fitting;
    snapshot = txn.table;
    is_snapshot = record { kept = own.snapshot; cut = λ _. subst (λ (s : Columns). IsTable s txn.table) own.schema k.table };
    answered = k.answered ∙ (λ i. replies_to (own.schema i).key_cols (own.limit i) txn.table [] (asked_of txn));
    replied = due ∙ due_as_recorded;
  }

  next_number : newest_number m ≤ newest_number (with_record m (record_of txn reply))
  next_number =
      let x = effects_of_record m.schema m.start (commits_in m) (record_of txn reply) in
      let after = ap (λ (cs : List Effects). length cs) (commits_from-append m.schema m.start [] m.history (record_of txn reply)) in
      let more = none_taken m.schema m.start (commits_in m) x reply in
      omega (arith, after, more)

  pub next_managed : m.made < 2 ^ 62 → IsManaged (with_record m (record_of txn reply))
  next_managed few =
      let more = length-append m.history (record_of txn reply ∷ []) in
      let counted = h.counted in
      let reached = h.reached in
      let number : newest_number m ≤ newest_number (with_record m (record_of txn reply)) = next_number in
      record {
        lawful = h.lawful;
        table = h.table;
        within = h.within;
        limited = h.limited;
        legal = IsLegalFrom-append m.schema m.start [] m.history (record_of txn reply) h.legal legal_record;
        counted = omega (arith, more, counted);
        few = omega (arith, few);
        based = h.based;
        reached = omega (arith, reached, number);
      }

  -- what leaves the table adds no commit
  pub refused_commits : LeavesTable reply → commits_in (with_record m (record_of txn reply)) ≡ commits_in m
  refused_commits leaves_it =
      commits_from-append m.schema m.start [] m.history (record_of txn reply)
      ∙ commits_with-refused (commits_in m) (effects_of_record m.schema m.start (commits_in m) (record_of txn reply)) reply leaves_it

  -- and what is committed adds its own
  pub granted_commits : (n : ℕ) → reply ≡ Committed n → is_too_old m txn ≡ false
      → commits_in (with_record m (record_of txn reply)) ≡ commits_in m ++ effects_of txn ∷ []
  granted_commits n is recent =
      commits_from-append m.schema m.start [] m.history (record_of txn reply)
      ∙ (λ i. commits_with (commits_in m) (recorded_is (above_base m txn own recent) i) (is i))
