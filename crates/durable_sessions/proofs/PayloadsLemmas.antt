-- What is logged of the commits of a list, and of one commit more.
use Rattle.std.proofs.Common.{◌≡◌, ℕ, suc, ◌+◌, ◌-◌, ◌<◌, ◌≤◌, ◌^◌, List, [], ◌∷◌, ◌++◌, length, map, take, refl, ap, ◌∙◌, arith, length-append, Ok}
use Rattle.std.proofs.Common.{nat_eq, true}
use Rattle.std.proofs.lemmas.Bool.Decides.{nat_tests}
use mathlib.Core.List.{IsPrefix}
use Rattle.publishing.proofs.Beginnings.{prefix_shorter, prefix_whole}
use Rattle.std.proofs.lemmas.List.{append-nil}
use Rattle.values.specs.Shape.{Columns}
use Rattle.codec.specs.Reading.{decoded, entries_in, entries_or_none}
use Rattle.model.specs.declared.write.CommitReply.{CommitReply}
use Rattle.model.specs.declared.write.CommitReply.TheVariants.{Committed, Conflict, TooOld, Full}
use Rattle.model.specs.Effects.{AreOver, Effects, table_with}
use Rattle.model.specs.Entries.{canonical_entries}
use Rattle.model.specs.History.{Record, Start, commits_from, commits_with, effects_of_record, table_with_all}
use Rattle.model.specs.Laws.{AreCommits, trees_of}
use Rattle.model.specs.Table.{Table}
use Rattle.txn.specs.Txn.{Transaction, effects_of}
use Rattle.txn.specs.Version.{TableVersion}
use Rattle.manager.specs.Managed.{IsManaged, Managed, newest_number, newest_table}
use Rattle.manager.proofs.CallerLemmas.{take_length}
use Rattle.publishing.specs.declared.item.Item.{Item}
use Rattle.publishing.specs.Commits.{Commit, all_effects, commit_of}
use Rattle.publishing.specs.Lists.{IsListed, all_commits, commits_of_item, number_in}
use Rattle.publishing.proofs.CallerLemmas.{all_commits-prefix, all_commits-push, version_is}
use Rattle.publishing.proofs.CommitsLemmas.{all_effects-append, length-all_effects}
use Rattle.replay.specs.Replayed.{AreSaid}
use Rattle.durable.specs.Durable.{payload_for}
use Rattle.durable_sessions.specs.Payloads.{effects_in, payloads_from, payloads_in}

-- ---- commits, and one more

pub commits-append : (schema : Columns) (t : Table) (commits : List Effects) (x : Effects) → AreCommits schema t commits
    → AreOver schema (table_with_all t commits) x → AreCommits schema t (commits ++ x ∷ [])
commits-append schema t [] x h over = (over, tt)
commits-append schema t (y ∷ commits) x h over = (h.0, commits-append schema (table_with t y) commits x h.1 over)

pub payloads-append : (table : ℕ) (t : Table) (commits : List Effects) (x : Effects)
    → payloads_from table t (commits ++ x ∷ [])
    ≡ payloads_from table t commits ++ payload_for table (canonical_entries (table_with_all t commits) x) ∷ []
payloads-append table t [] x = refl
payloads-append table t (c ∷ commits) x =
    ap (λ (p : List (List ℕ)). payload_for table (canonical_entries t c) ∷ p) (payloads-append table (table_with t c) commits x)

pub payloads-length : (table : ℕ) (t : Table) (commits : List Effects) → length (payloads_from table t commits) ≡ length commits
payloads-length table t [] = refl
payloads-length table t (c ∷ commits) = ap suc (payloads-length table (table_with t c) commits)

-- payloads that say commits, and one that says one commit more
pub said-append : (schema : Columns) (table : ℕ) (t : Table) (commits : List Effects) (payloads : List (List ℕ)) (x : Effects)
    (payload : List ℕ)
    → AreSaid schema table t commits payloads → entries_in schema table payload ≡ Ok (canonical_entries (table_with_all t commits) x)
    → AreSaid schema table t (commits ++ x ∷ []) (payloads ++ payload ∷ [])
said-append schema table t [] [] x payload h one = (one, tt)
said-append schema table t (c ∷ commits) (p ∷ payloads) x payload h one =
    (h.0, said-append schema table (table_with t c) commits payloads x payload h.1 one)
said-append schema table t [] (p ∷ payloads) x payload h one = absurd h
said-append schema table t (c ∷ commits) [] x payload h one = absurd h

-- payloads that say commits are decoded as their trees
pub said-trees : (schema : Columns) (table : ℕ) (t : Table) (commits : List Effects) (payloads : List (List ℕ))
    → AreSaid schema table t commits payloads → map (decoded schema table) payloads ≡ trees_of schema t commits
said-trees schema table t [] [] h = refl
said-trees schema table t (c ∷ commits) (p ∷ payloads) h =
    λ i. ap entries_or_none h.0 i ∷ said-trees schema table (table_with t c) commits payloads h.1 i
said-trees schema table t [] (p ∷ payloads) h = absurd h
said-trees schema table t (c ∷ commits) [] h = absurd h

-- ---- the commits of a list

module _ (o : Managed) where
  pub effects_grown : (list : List Item) (item : Item) (txn : Transaction) → commits_of_item item ≡ commit_of txn ∷ []
      → effects_in o (list ++ item ∷ []) ≡ effects_in o list ++ effects_of txn ∷ []
  effects_grown list item txn is =
      ap all_effects (all_commits-push o list item)
      ∙ all_effects-append (all_commits o list) (commits_of_item item)
      ∙ ap (λ (cs : List Commit). effects_in o list ++ all_effects cs) is

  pub effects_same : (list : List Item) (item : Item) → commits_of_item item ≡ [] → effects_in o (list ++ item ∷ []) ≡ effects_in o list
  effects_same list item is =
      ap all_effects (all_commits-push o list item)
      ∙ ap (λ (cs : List Commit). all_effects (all_commits o list ++ cs)) is
      ∙ ap all_effects (append-nil (all_commits o list))

  pub payloads_count : (table : ℕ) (list : List Item) → number_in o list ≡ o.start.base + length (payloads_in o table list)
  payloads_count table list =
      let one = length-all_effects (all_commits o list) in
      let two = payloads-length table o.start.table (effects_in o list) in
      omega (arith, one, two)

  -- the newest table of the manager of a list
  pub table_after : (list : List Item) (m : Managed) → IsListed o list m
      → newest_table m ≡ table_with_all o.start.table (effects_in o list)
  table_after list m l =
      let len = length-all_effects (all_commits o list) in
      let n : number_in o list - o.start.base ≡ length (effects_in o list) = omega (arith, len) in
      ap (λ (v : TableVersion). v.table) (version_is o list m l)
      ∙ ap (table_with_all o.start.table) (ap (λ k. take k (effects_in o list)) n ∙ take_length (effects_in o list))

-- ---- numbers that are small

one_at_most : (commits : List Effects) (x : Effects) (reply : CommitReply) → length (commits_with commits x reply) ≤ suc (length commits)
one_at_most commits x (Committed n) = let e = length-append commits (x ∷ []) in omega (arith, e)
one_at_most commits x (Conflict n) = omega arith
one_at_most commits x (TooOld n) = omega arith
one_at_most commits x (Full n) = omega arith

commits_few : (schema : Columns) (start : Start) (commits : List Effects) (history : List Record)
    → length (commits_from schema start commits history) ≤ length commits + length history
commits_few schema start commits [] = omega arith
commits_few schema start commits (r ∷ history) =
    let x = effects_of_record schema start commits r in
    let one = one_at_most commits x r.reply in
    let rest = commits_few schema start (commits_with commits x r.reply) history in
    omega (arith, one, rest)

pub number_small : (m : Managed) → IsManaged m → suc (newest_number m) < 2 ^ 63
number_small m h =
    let few = commits_few m.schema m.start [] m.history in
    let made = h.counted in
    let most = h.few in
    omega (arith, few, made, most)

-- ---- beginnings of one list

-- those with as many commits have the same ones
pub one_history : (o : Managed) (xs ys zs : List Item) → IsPrefix xs zs → IsPrefix ys zs → number_in o xs ≡ number_in o ys
    → effects_in o xs ≡ effects_in o ys
one_history o xs ys zs p q same =
    let a = all_commits o xs in
    let b = all_commits o ys in
    let shorter = prefix_shorter a b (all_commits o zs) (all_commits-prefix o xs zs p) (all_commits-prefix o ys zs q) (omega (arith, same)) in
    ap all_effects (prefix_whole a b shorter (omega (arith, same)))

pub eq_same : (a b : ℕ) → nat_eq a b ≡ true → a ≡ b
eq_same a b is = grind (arith, nat_tests)

pub same_eq : (a b : ℕ) → a ≡ b → nat_eq a b ≡ true
same_eq a b is = grind (arith, nat_tests)
