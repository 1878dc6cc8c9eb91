-- One item more in the list of a manager.
use Rattle.std.proofs.Common.{◌≡◌, ℕ, suc, ◌+◌, ◌-◌, ◌≤◌, false, List, [], ◌∷◌, ◌++◌, length, take, drop, refl, sym, ap, ◌∙◌, arith, length-append}
use Rattle.std.specs.Prelude.{nat_lt}
use Rattle.std.specs.List.{list_any}
use Rattle.std.proofs.lemmas.Bool.Decides.{nat_tests}
use Rattle.std.proofs.lemmas.List.{append-nil, drop-append-le, drop_at}
use Rattle.model.specs.declared.write.CommitReply.{CommitReply}
use Rattle.model.specs.declared.write.CommitReply.TheVariants.{Committed, Conflict, TooOld, Full}
use Rattle.model.specs.Clashes.{conflicts}
use Rattle.model.specs.Effects.{table_with}
use Rattle.model.specs.History.{table_with_all, effects_of_record}
use Rattle.txn.specs.Txn.{Transaction, IsTransaction, effects_of}
use Rattle.txn.specs.Version.{Lower, LayeredVersion, TableVersion, numbered}
use Rattle.manager.specs.Managed.{Managed, IsManaged, IsOwn, newest_number, newest_table, newest_version, reply_due, cut_of, history_of, is_too_old, commits_since, record_of, with_record, with_layers}
use Rattle.manager.specs.Managed as managed
use Rattle.manager.proofs.CallerLemmas.{above_base, granted_when, recorded_is, table_with_all-one, take_length}
use Rattle.publishing.specs.declared.item.Item.{Item}
use Rattle.publishing.specs.declared.item.Item.TheVariants.{Opens, Commits, Same, Cuts}
use Rattle.publishing.specs.Commits.{Commit, commit_of, all_effects, commits_made, granted_by}
use Rattle.publishing.specs.Lists.{IsSame, IsCutAt, commits_of_item, last_version, shown_in, version_of_item, all_commits, number_in, table_at, version_in, base_after, base_in, start_in, commits_since_start, IsListed, IsOfList}
use Rattle.publishing.proofs.CommitsLemmas.{length-all_effects, all_effects-append, commits_from_records-push, effects_prefix, all_commits-prefix, all_commits-push, last_base-push}
use Rattle.publishing.proofs.ListedLemmas.{number_is, table_is}

-- ---- what a record adds to the commits of a manager

module _ (m : Managed) (h : IsManaged m) (txn : Transaction) (k : IsTransaction txn) (own : IsOwn m txn) where
  -- a commit that is granted keeps the limit, and isn't too old
  granted : (n : ℕ) → Committed n ≡ reply_due m txn
      → (is_too_old m txn ≡ false) × (nat_lt m.start.limit (length (table_with (newest_table m) (effects_of txn))) ≡ false)
  granted n due =
      let tests = granted_when (is_too_old m txn) (list_any (conflicts m.start.rule (effects_of txn)) (commits_since m txn))
      (nat_lt m.start.limit (length (table_with (newest_table m) (effects_of txn)))) (newest_number m) n due in
      (tests.0, tests.1.1)

  -- the table after a commit that is granted has no more rows than the limit
  pub granted_within : (n : ℕ) → Committed n ≡ reply_due m txn → length (table_with (newest_table m) (effects_of txn)) ≤ m.start.limit
  granted_within n due = let fits = (granted n due).1 in grind (arith, nat_tests)

  added : (reply : CommitReply) → reply ≡ reply_due m txn →
      granted_by (record {
        client = txn.client;
        begin = txn.begin;
        effects = effects_of_record m.schema m.start (managed.commits_in m) (record_of txn reply);
      }) reply
      ≡ granted_by (commit_of txn) reply
  added (Committed n) due =
      let above = above_base m txn own (granted n due).0 in
      (λ i. record { client = txn.client; begin = txn.begin; effects = recorded_is m h txn k own (Committed n) due above i } ∷ [])
  added (Conflict n) due = refl
  added (TooOld n) due = refl
  added (Full n) due = refl

  pub commits_recorded : (reply : CommitReply) → reply ≡ reply_due m txn
      → commits_made (with_record m (record_of txn reply)) ≡ commits_made m ++ granted_by (commit_of txn) reply
  commits_recorded reply due =
      commits_from_records-push m.schema m.start [] m.history (record_of txn reply)
      ∙ ap (λ (cs : List Commit). commits_made m ++ cs) (added reply due)

-- what an item of the same table, or of a cut, is
same_commits : (v : LayeredVersion) (item : Item) → IsSame v item → commits_of_item item ≡ []
same_commits v (Opens manager) h = absurd h
same_commits v (Commits txn version) h = absurd h
same_commits v (Same version) h = refl
same_commits v (Cuts base version) h = absurd h

same_base : (v : LayeredVersion) (item : Item) (base : ℕ) → IsSame v item → base_after base item ≡ base
same_base v (Opens manager) base h = absurd h
same_base v (Commits txn version) base h = absurd h
same_base v (Same version) base h = refl
same_base v (Cuts at version) base h = absurd h

cut_commits : (n : ℕ) (v : LayeredVersion) (item : Item) → IsCutAt n v item → commits_of_item item ≡ []
cut_commits n v (Opens manager) h = absurd h
cut_commits n v (Commits txn version) h = absurd h
cut_commits n v (Same version) h = absurd h
cut_commits n v (Cuts base version) h = refl

cut_base : (n : ℕ) (v : LayeredVersion) (item : Item) (base : ℕ) → IsCutAt n v item → base_after base item ≡ n
cut_base n v (Opens manager) base h = absurd h
cut_base n v (Commits txn version) base h = absurd h
cut_base n v (Same version) base h = absurd h
cut_base n v (Cuts at version) base h = h.0

last_version-push : (v : LayeredVersion) (list : List Item) (item : Item) → last_version v (list ++ item ∷ []) ≡ version_of_item item
last_version-push v [] item = refl
last_version-push v (x ∷ list) item = last_version-push (version_of_item x) list item

module _ (o : Managed) (list : List Item) where
  -- what is published is the last item's version
  pub shown_in-push : (item : Item) → shown_in o (list ++ item ∷ []) ≡ version_of_item item
  shown_in-push item = last_version-push (numbered o.layers (newest_number o)) list item

  -- ---- the start stays

  module _ (item : Item) (same : base_after (base_in o list) item ≡ base_in o list) where
    abbrev more : List Item
    more = list ++ item ∷ []

    base_same : base_in o more ≡ base_in o list
    base_same = last_base-push o.start.base list item ∙ same

    number_more : number_in o list ≤ number_in o more
    number_more =
        let e = ap (λ (cs : List Commit). length cs) (all_commits-push o list item) in
        let n = length-append (all_commits o list) (commits_of_item item) in
        omega (arith, e, n)

    start_same : base_in o list ≤ number_in o list → start_in o more ≡ start_in o list
    start_same based =
        let n : base_in o list - o.start.base ≤ length (all_commits o list) = omega (arith, based) in
        let table : table_at o more (base_in o more) ≡ table_at o list (base_in o list) =
        ap (table_at o more) base_same
        ∙ ap (table_with_all o.start.table)
        (effects_prefix (all_commits o list) (all_commits o more) (base_in o list - o.start.base)
        (all_commits-prefix o list more (item ∷ [], refl)) n)
        in
        (λ i. record { table = table i; base = base_same i; limit = o.start.limit; recent = o.start.recent; rule = o.start.rule })

    since_more : base_in o list ≤ number_in o list → commits_since_start o more ≡ commits_since_start o list ++ commits_of_item item
    since_more based =
        let n : base_in o list - o.start.base ≤ length (all_commits o list) = omega (arith, based) in
        (λ i. drop (base_same i - o.start.base) (all_commits-push o list item i))
        ∙ drop-append-le (base_in o list - o.start.base) (all_commits o list) (commits_of_item item) n

    -- a manager that made the commits of the item since
    listed_with : (m m' : Managed) → IsListed o list m → m'.schema ≡ m.schema → m'.start ≡ m.start
        → m'.keeps ≡ m.keeps → commits_made m' ≡ commits_made m ++ commits_of_item item → IsListed o more m'
    listed_with m m' l schema start keeps commits =
        let base = base_same in
        let from = l.from_base in
        let based = l.based in
        let longer = number_more in
        record {
          schema = schema ∙ l.schema;
          start = start ∙ l.start ∙ sym (start_same l.based);
          commits = commits ∙ ap (λ (cs : List Commit). cs ++ commits_of_item item) l.commits ∙ sym (since_more l.based);
          from_base = omega (arith, base, from);
          based = omega (arith, base, based, longer);
          keeps = keeps ∙ l.keeps;
        }

  -- the same table once more
  pub listed_same : (v : LayeredVersion) (item : Item) → IsSame v item → (m : Managed) → IsListed o list m
      → IsListed o (list ++ item ∷ []) m
  listed_same v item is m l =
      listed_with item (same_base v item (base_in o list) is) m m l refl refl refl
      (sym (append-nil (commits_made m)) ∙ ap (λ (cs : List Commit). commits_made m ++ cs) (sym (same_commits v item is)))

  all_commits_quiet : (item : Item) → commits_of_item item ≡ [] → all_commits o (list ++ item ∷ []) ≡ all_commits o list
  all_commits_quiet item none =
      all_commits-push o list item ∙ ap (λ (cs : List Commit). all_commits o list ++ cs) none ∙ append-nil (all_commits o list)

  -- an item that is no commit leaves the version
  version_quiet : (item : Item) → commits_of_item item ≡ [] → version_in o list ≡ version_in o (list ++ item ∷ [])
  version_quiet item none =
      let e = sym (all_commits_quiet item none) in
      (λ i. record {
        schema = o.schema;
        table = table_with_all o.start.table (take ((o.start.base + length (e i)) - o.start.base) (all_effects (e i)));
        number = o.start.base + length (e i);
      })

  -- an item of the same table leaves the newest version as it is
  pub version_same : (v : LayeredVersion) (item : Item) → IsSame v item → version_in o list ≡ version_in o (list ++ item ∷ [])
  version_same v item is = version_quiet item (same_commits v item is)

  -- a cut leaves the newest version as it is
  pub version_cut : (n : ℕ) (v : LayeredVersion) (item : Item) → IsCutAt n v item → version_in o list ≡ version_in o (list ++ item ∷ [])
  version_cut n v item is = version_quiet item (cut_commits n v item is)

  -- and a list isn't about layers
  pub listed_over : (m : Managed) (layers : Lower) → IsListed o list m → IsListed o list (with_layers m layers)
  listed_over m layers l =
      record {
        schema = l.schema;
        start = l.start;
        commits = l.commits;
        from_base = l.from_base;
        based = l.based;
        keeps = l.keeps;
      }

  module _ (m : Managed) (l : IsListed o list m) where
    -- ---- a cut

    -- the history that a cut hands out
    pub of_list : IsOfList o list (history_of m)
    of_list = record { schema = l.schema; start = l.start; commits = l.commits; keeps = l.keeps }

    -- a manager cut at its newest number is that of the list with the cut
    pub listed_cut : (base : ℕ) (v : LayeredVersion) (item : Item) → IsCutAt base v item → base ≡ newest_number m
        → IsListed o (list ++ item ∷ []) (cut_of m)
    listed_cut base v item cuts is =
        let more = list ++ item ∷ [] in
        let number = number_is o list m l in
        let at : base_in o more ≡ base = last_base-push o.start.base list item ∙ cut_base base v item (base_in o list) cuts in
        let quiet : all_commits o more ≡ all_commits o list = all_commits_quiet item (cut_commits base v item cuts) in
        let same : base ≡ number_in o list = is ∙ number in
        let table : newest_table m ≡ table_at o more (base_in o more) =
        table_is o list m l
        ∙ (λ i. table_with_all o.start.table (take (sym (at ∙ same) i - o.start.base) (all_effects (sym quiet i)))) in
        let count = ap (λ (cs : List Commit). length cs) quiet in
        let all : base_in o more - o.start.base ≡ length (all_commits o list) = omega (arith, at, same) in
        record {
          schema = l.schema;
          start =
              (λ i. record {
                table = table i;
                base = (sym is ∙ sym at) i;
                limit = (l.start i).limit;
                recent = (l.start i).recent;
                rule = (l.start i).rule;
              });
          commits = sym (
              (λ i. drop (all i) (quiet i))
              ∙ ap (λ (cs : List Commit). drop (length (all_commits o list)) cs) (sym (append-nil (all_commits o list)))
              ∙ drop_at (all_commits o list) [] (length (all_commits o list)) refl);
          from_base = omega (arith, at, same);
          based = omega (arith, at, same, count);
          keeps = l.keeps;
        }

    -- ---- a commit

    module _ (h : IsManaged m) (txn : Transaction) (k : IsTransaction txn) (own : IsOwn m txn) where
      -- a reply that leaves the table leaves the list
      pub listed_refused : (reply : CommitReply) → reply ≡ reply_due m txn → granted_by (commit_of txn) reply ≡ []
          → IsListed o list (with_record m (record_of txn reply))
      listed_refused reply due none = record {
        schema = l.schema;
        start = l.start;
        commits =
            commits_recorded m h txn k own reply due
            ∙ ap (λ (cs : List Commit). commits_made m ++ cs) none
            ∙ append-nil (commits_made m)
            ∙ l.commits;
        from_base = l.from_base;
        based = l.based;
        keeps = l.keeps;
      }

      -- a commit that is granted is the next item
      pub listed_commit : (item : Item) → base_after (base_in o list) item ≡ base_in o list
          → commits_of_item item ≡ commit_of txn ∷ [] → (n : ℕ) → Committed n ≡ reply_due m txn →
          IsListed o (list ++ item ∷ []) (with_record m (record_of txn (Committed n)))
      listed_commit item same is n due =
          listed_with item same m (with_record m (record_of txn (Committed n))) l refl refl refl
          (commits_recorded m h txn k own (Committed n) due ∙ ap (λ (cs : List Commit). commits_made m ++ cs) (sym is))

    -- and the version after it is that of the list
    pub version_commit : (item : Item) (txn : Transaction) → commits_of_item item ≡ commit_of txn ∷ [] → (v : TableVersion) →
        v ≡ record { schema = m.schema; table = table_with (newest_table m) (effects_of txn); number = suc (newest_number m) }
        → v ≡ version_in o (list ++ item ∷ [])
    version_commit item txn is v granted =
        let more = list ++ item ∷ [] in
        let whole = all_effects (all_commits o list) in
        let push : all_commits o more ≡ all_commits o list ++ commit_of txn ∷ [] =
        all_commits-push o list item ∙ ap (λ (cs : List Commit). all_commits o list ++ cs) is in
        let effects : all_effects (all_commits o more) ≡ whole ++ effects_of txn ∷ [] =
        ap all_effects push ∙ all_effects-append (all_commits o list) (commit_of txn ∷ []) in
        let number : suc (newest_number m) ≡ number_in o more =
        (let a = number_is o list m l in
        let b = ap (λ (cs : List Commit). length cs) push in
        let c = length-append (all_commits o list) (commit_of txn ∷ []) in omega (arith, a, b, c))
        in
        let len = length-all_effects (all_commits o more) in
        let n : number_in o more - o.start.base ≡ length (all_effects (all_commits o more)) = omega (arith, len) in
        let all : take (number_in o more - o.start.base) (all_effects (all_commits o more)) ≡ whole ++ effects_of txn ∷ [] =
        ap (λ j. take j (all_effects (all_commits o more))) n ∙ take_length (all_effects (all_commits o more)) ∙ effects in
        let len0 = length-all_effects (all_commits o list) in
        let n0 : number_in o list - o.start.base ≡ length whole = omega (arith, len0) in
        let old : table_at o list (number_in o list) ≡ table_with_all o.start.table whole =
        ap (λ j. table_with_all o.start.table (take j whole)) n0 ∙ ap (table_with_all o.start.table) (take_length whole) in
        let table : table_with (newest_table m) (effects_of txn) ≡ table_at o more (number_in o more) =
        ap (λ t. table_with t (effects_of txn)) (table_is o list m l ∙ old)
        ∙ sym (table_with_all-one o.start.table whole (effects_of txn))
        ∙ sym (ap (table_with_all o.start.table) all) in
        granted ∙ (λ i. record { schema = l.schema i; table = table i; number = number i })
