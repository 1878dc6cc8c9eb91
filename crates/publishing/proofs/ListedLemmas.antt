-- A manager whose commits are those of a list, and transactions that began in it.
use Rattle.std.proofs.Common.{◌≡◌, ℕ, ◌+◌, ◌-◌, ◌≤◌, List, [], length, take, drop, refl, sym, ap, ◌∙◌, arith}
use Rattle.std.proofs.lemmas.List.{append-nil, length-drop}
use mathlib.Core.List.{IsPrefix}
use Rattle.model.specs.Effects.{Effects}
use Rattle.model.specs.History.{Start, table_with_all, due_reply}
use Rattle.model.proofs.CallerLemmas.{table_with_all-drop}
use Rattle.txn.specs.Txn.{Transaction, effects_of}
use Rattle.manager.specs.Managed.{Managed, IsOwn, newest_number, newest_table, newest_version, reply_due, cut_of}
use Rattle.manager.specs.Managed as managed
use Rattle.manager.proofs.CallerLemmas.{table_with_all-later, take_length}
use Rattle.publishing.specs.declared.item.Item.{Item}
use Rattle.publishing.specs.Commits.{all_effects, commits_made}
use Rattle.publishing.specs.Lists.{all_commits, number_in, table_at, version_in, base_in, start_in, commits_since_start, reply_at, IsBegun, IsListed}
use Rattle.publishing.proofs.Beginnings.{prefix_shorter, prefix_length}
use Rattle.publishing.proofs.CommitsLemmas.{length-all_effects, all_effects-drop, effects_of_commits, effects_prefix, all_commits-prefix}

module _ (o : Managed) where
  -- ---- a transaction that began in a list

  begun_by : (xs ys : List Item) (txn : Transaction) → IsPrefix (all_commits o xs) (all_commits o ys) → IsBegun o xs txn → IsBegun o ys txn
  begun_by xs ys txn p b =
      let le = prefix_length (all_commits o xs) (all_commits o ys) p in
      let begun = b.begun in
      record {
        schema = b.schema;
        limit = b.limit;
        from_base = b.from_base;
        begun = omega (arith, begun, le);
        snapshot =
            b.snapshot
            ∙ ap (table_with_all o.start.table)
            (sym (effects_prefix (all_commits o xs) (all_commits o ys) (txn.begin - o.start.base) p (omega (arith, begun))));
      }

  -- it began in each longer list too
  pub begun_more : (xs ys : List Item) (txn : Transaction) → IsPrefix xs ys → IsBegun o xs txn → IsBegun o ys txn
  begun_more xs ys txn p b = begun_by xs ys txn (all_commits-prefix o xs ys p) b

  -- of two beginnings of one list it began in the one with no fewer commits
  pub begun_here : (xs ys both : List Item) (txn : Transaction) → IsPrefix xs both → IsPrefix ys both
      → number_in o xs ≤ number_in o ys → IsBegun o xs txn → IsBegun o ys txn
  begun_here xs ys both txn p q le b =
      begun_by xs ys txn
      (prefix_shorter (all_commits o xs) (all_commits o ys) (all_commits o both) (all_commits-prefix o xs both p)
      (all_commits-prefix o ys both q) (omega (arith, le)))
      b

  -- ---- the opening

  start_at_opening : o.start ≡ start_in o []
  start_at_opening =
      let none : o.start.base - o.start.base ≡ 0 = omega arith in
      (λ i. record {
        table = table_with_all o.start.table (take (sym none i) (all_effects (all_commits o [])));
        base = o.start.base;
        limit = o.start.limit;
        recent = o.start.recent;
        rule = o.start.rule;
      })

  -- the manager at the opening is that of the empty list
  pub listed_at_opening : IsListed o [] o
  listed_at_opening =
      let none : o.start.base - o.start.base ≡ 0 = omega arith in
      record {
        schema = refl;
        start = start_at_opening;
        commits = sym (ap (λ n. drop n (all_commits o [])) none ∙ append-nil (commits_made o));
        from_base = omega arith;
        based = omega arith;
        keeps = refl;
      }

  -- ---- the manager of a list

  module _ (list : List Item) (m : Managed) (l : IsListed o list m) where
    abbrev cut : ℕ
    cut = base_in o list - o.start.base

    abbrev whole : List Effects
    whole = all_effects (all_commits o list)

    commits_are : managed.commits_in m ≡ drop cut whole
    commits_are = effects_of_commits m.schema m.start [] m.history ∙ ap all_effects l.commits ∙ all_effects-drop cut (all_commits o list)

    base_is : m.start.base ≡ base_in o list
    base_is = ap (λ (s : Start). s.base) l.start

    -- the manager's newest number is the list's
    pub number_is : newest_number m ≡ number_in o list
    number_is =
        let base = base_is in
        let count : length (managed.commits_in m) ≡ length whole - cut =
        ap (λ (es : List Effects). length es) commits_are ∙ length-drop cut whole in
        let len = length-all_effects (all_commits o list) in
        let from = l.from_base in
        let based = l.based in
        omega (arith, base, count, len, from, based)

    whole_taken : take (number_in o list - o.start.base) whole ≡ whole
    whole_taken =
        let len = length-all_effects (all_commits o list) in
        let n : number_in o list - o.start.base ≡ length whole = omega (arith, len) in
        ap (λ k. take k whole) n ∙ take_length whole

    pub table_is : newest_table m ≡ table_at o list (number_in o list)
    table_is =
        (λ i. table_with_all ((l.start i).table) (commits_are i))
        ∙ table_with_all-drop o.start.table whole cut
        ∙ sym (ap (table_with_all o.start.table) whole_taken)

    -- the manager's newest version is the list's
    pub version_is : newest_version m ≡ version_in o list
    version_is = (λ i. record { schema = l.schema i; table = table_is i; number = number_is i })

    -- a transaction that began in the list is the manager's own
    pub own_here : (txn : Transaction) → IsBegun o list txn → IsOwn m txn
    own_here txn b =
        let number = number_is in
        let begun = b.begun in
        let base = base_is in
        let from = l.from_base in
        record {
          schema = b.schema ∙ sym l.schema;
          limit = b.limit ∙ sym (ap (λ (s : Start). s.limit) l.start);
          begun = omega (arith, number, begun);
          snapshot = λ above.
              let k : cut + (txn.begin - m.start.base) ≡ txn.begin - o.start.base = omega (arith, base, from, above) in
              b.snapshot
              ∙ ap (λ n. table_with_all o.start.table (take n whole)) (sym k)
              ∙ sym (table_with_all-later o.start.table whole cut (txn.begin - m.start.base))
              ∙ sym (λ i. table_with_all ((l.start i).table) (take (txn.begin - m.start.base) (commits_are i)));
        }

    -- the reply that is due to it is that of the list
    pub reply_here : (txn : Transaction) → reply_due m txn ≡ reply_at o list txn
    reply_here txn =
        let effects : managed.commits_in m ≡ all_effects (commits_since_start o list) =
        effects_of_commits m.schema m.start [] m.history ∙ ap all_effects l.commits in
        (λ i. due_reply (l.start i) (effects i) txn.begin (effects_of txn))
