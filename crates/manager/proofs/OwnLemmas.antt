-- A transaction of a manager against the trees that it keeps.
use Rattle.std.proofs.Common.{◌≡◌, ℕ, suc, ◌+◌, ◌-◌, ◌<◌, ◌≤◌, Bool, true, false, cond, Result, Ok, Err, Option, Some, None, List, length, drop, sym, ap, ◌∙◌, subst, arith}
use Rattle.std.specs.Prelude.{IfOk, nat_lt}
use Rattle.std.specs.List.{list_any}
use Rattle.std.proofs.lemmas.Bool.Decides.{nat_tests}
use Rattle.values.specs.Shape.{Columns}
use Rattle.model.specs.declared.write.CommitReply.TheVariants.{Committed, Conflict, TooOld, Full}
use Rattle.model.specs.Table.{Table}
use Rattle.model.specs.Effects.{Effects, AreOver, table_with}
use Rattle.model.specs.Clashes.{conflicts}
use Rattle.model.specs.Places.{insert_count, delete_count}
use Rattle.delta.specs.Tree.{Tree}
use Rattle.delta.proofs.CallerLemmas.{inserts_few, rows_after}
use Rattle.layers.specs.Over.{tree_of}
use Rattle.txn.specs.Txn.{Transaction, IsTransaction, effects_of}
use Rattle.txn.specs.Txn as transaction
use Rattle.txn.specs.Version.{Lower, LayeredVersion}
use Rattle.txn.proofs.CallerLemmas.{over, image_within}
use Rattle.manager.specs.Managed.{Managed, newest_table, newest_number, IsOwn, is_too_old, commits_in, commits_since, reply_due}
use Rattle.manager.specs.Kept.{HoldsNewest, commit_trees, kept_trees}
use Rattle.manager.specs.Passing.{MayPass, IsThrough}
use Rattle.manager.specs.Prepared.{IsPassed}
use Rattle.manager.proofs.HistoryLemmas.{above_base, since_few, snapshot_is, over_snapshot, commits_since_fit, since_newest, since_within}
use Rattle.manager.proofs.KeptLemmas.{kept_count, kept_since}
use Rattle.manager.proofs.GrantLemmas.{limited}

pub if_ok : {A E : Type 0} {P Q : A → Type 0} (r : Result A E) → ((x : A) → P x → Q x) → IfOk r P → IfOk r Q
if_ok (Ok x) f h = f x h
if_ok (Err e) f h = h

module _ (m : Managed) (l : Lower) (newest : LayeredVersion) (kept : List Tree) (h : HoldsNewest m l newest kept)
    (txn : Transaction) (own : IsOwn m txn) (recent : is_too_old m txn ≡ false) (decided : m.floor ≤ txn.begin) where
  -- how many commits came since it began, from the base on
  since_is : newest_number m - txn.begin ≡ length (commits_in m) - (txn.begin - m.start.base)
  since_is = let above = above_base m txn own recent in let begun = own.begun in omega (arith, above, begun)

  since_inside : txn.begin - m.start.base ≤ length (commits_in m)
  since_inside = let above = above_base m txn own recent in let begun = own.begun in omega (arith, above, begun)

  -- the trees of all commits since it began are kept
  pub since_kept : newest_number m - txn.begin ≤ length kept
  since_kept =
      let few = since_few m txn own recent in
      let is = since_is in
      let count = kept_count m l newest kept h in
      omega (arith, few, is, count, decided)

  -- so that its tree may pass them
  module _ (k : IsTransaction txn) (first : ℕ) (first_is : first ≡ length kept - (newest_number m - txn.begin)) (tree : Tree)
      (tree_is : tree ≡ transaction.tree_of txn) where
    pub own_tree : tree ≡ tree_of m.schema txn.table (effects_of txn)
    own_tree = tree_is ∙ ap (λ (s : Columns). tree_of s txn.table (effects_of txn)) own.schema

    pub kept_from : drop first kept ≡ commit_trees m.schema txn.table (commits_since m txn)
    kept_from =
        let j = txn.begin - m.start.base in
        let few = since_few m txn own recent in
        let is = since_is in
        let inside = since_kept in
        let same : length kept ≡ length (kept_trees m) = ap (λ (ts : List Tree). length ts) h.kept_are in
        let near : length (commits_in m) - j ≤ m.start.recent = omega (arith, few, is) in
        let above : m.floor - m.start.base ≤ j = omega (arith, decided) in
        let at : first + (length (commits_in m) - j) ≡ length (kept_trees m) = omega (arith, first_is, is, inside, same) in
        ap (drop first) h.kept_are
        ∙ kept_since m.schema m.start.table (commits_in m) m.start.recent (m.floor - m.start.base) j first above since_inside near at
        ∙ ap (λ (t : Table). commit_trees m.schema t (commits_since m txn)) (snapshot_is m txn own recent)

    abbrev pub may_pass : MayPass m.start.rule (drop first kept) tree
    may_pass = record {
      schema = m.schema;
      now = txn.table;
      x = effects_of txn;
      rest = commits_since m txn;
      lawful = h.lawful.lawful;
      over = over_snapshot m txn own recent h.lawful k;
      tree_is = own_tree;
      few =
          let bound = inserts_few txn.schema txn.table (effects_of txn) (over txn k) in
          let within = image_within txn k in
          let limit = own.limit in
          let most = limited m m.start.limit h.lawful (omega arith) in
          subst (λ (t : Tree). insert_count t.entries ≤ 2147483647) (sym tree_is) (omega (arith, bound, within, limit, most));
      kept_are = kept_from;
      commits = commits_since_fit m txn own recent h.lawful k;
      within = λ j. limited m _ h.lawful (since_within m txn own recent h.lawful k j);
    }

    -- and what comes of it is what the commit looks for
    pub led_on : (passed : Option Tree) → IsThrough m.start.rule (drop first kept) tree may_pass passed → IsPassed m txn passed
    led_on None told = told
    led_on (Some after) told =
        (told.0, told.1 ∙ ap (λ (t : Table). tree_of m.schema t (effects_of txn)) (since_newest m txn own recent h.lawful k))

-- the rows after effects, by the counts of their tree
pub rows_counted : (m : Managed) (x : Effects) (tree : Tree) → AreOver m.schema (newest_table m) x
    → tree ≡ tree_of m.schema (newest_table m) x →
    delete_count tree.entries + length (table_with (newest_table m) x) ≡ insert_count tree.entries + length (newest_table m)
rows_counted m x tree over is =
    subst
    (λ (t : Tree). delete_count t.entries + length (table_with (newest_table m) x) ≡ insert_count t.entries + length (newest_table m))
    (sym is)
    (rows_after m.schema (newest_table m) x over)

-- ---- the reply, by the tests in their order

module _ (m : Managed) (txn : Transaction) where
  abbrev clash : Bool
  clash = list_any (conflicts m.start.rule (effects_of txn)) (commits_since m txn)

  full_true : (n : ℕ) → m.start.limit < n → nat_lt m.start.limit n ≡ true
  full_true n h = grind (arith, nat_tests)

  full_false : (n : ℕ) → n ≤ m.start.limit → nat_lt m.start.limit n ≡ false
  full_false n h = grind (arith, nat_tests)

  pub full_due : is_too_old m txn ≡ false → clash ≡ false → m.start.limit < length (table_with (newest_table m) (effects_of txn))
      → Full (newest_number m) ≡ reply_due m txn
  full_due old none past =
      sym (λ i. cond (old i) (TooOld (newest_number m)) (cond (none i) (Conflict (newest_number m))
      (cond (full_true _ past i) (Full (newest_number m)) (Committed (suc (newest_number m))))))

  pub committed_due : is_too_old m txn ≡ false → clash ≡ false
      → length (table_with (newest_table m) (effects_of txn)) ≤ m.start.limit
      → Committed (suc (newest_number m)) ≡ reply_due m txn
  committed_due old none within =
      sym (λ i. cond (old i) (TooOld (newest_number m)) (cond (none i) (Conflict (newest_number m))
      (cond (full_false _ within i) (Full (newest_number m)) (Committed (suc (newest_number m))))))
