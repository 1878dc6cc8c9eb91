-- What the last commits changed, among the trees that a manager keeps.
use Rattle.std.proofs.Common.{◌≡◌, ℕ, zero, suc, ◌+◌, ◌-◌, ◌<◌, ◌≤◌, true, false, cond, Option, Some, None, List, [], ◌∷◌, length, take, drop, sym, ap, ◌∙◌, arith}
use Rattle.std.specs.Prelude.{slice_get}
use Rattle.std.proofs.lemmas.Bool.Decides.{nat_tests}
use Rattle.std.proofs.lemmas.List.{drop-drop, length-drop}
use Rattle.circular_buffer.proofs.Places.{slice_get-drop}
use Rattle.values.specs.Shape.{Columns}
use Rattle.model.specs.declared.entry.Entry.{Entry}
use Rattle.model.specs.Table.{Table, rows_of}
use Rattle.model.specs.Effects.{Effects, table_with}
use Rattle.model.specs.History.{table_with_all}
use Rattle.model.specs.Laws.{AreCommits}
use Rattle.model.specs.Merging.{merged_rows}
use Rattle.delta.specs.Tree.{Tree}
use Rattle.merge.proofs.CallerLemmas.{merges}
use Rattle.txn.specs.Version.{Lower, LayeredVersion}
use Rattle.manager.specs.Managed.{Managed, commits_in, newest_number}
use Rattle.manager.specs.Kept.{HoldsNewest, commit_trees, kept_tree, is_kept, rows_at}
use Rattle.manager.proofs.HistoryLemmas.{each_fits}
use Rattle.manager.proofs.KeptLemmas.{length-commit_trees, kept_count}

-- the entries of a commit make of the rows before it those after it
merged_at : (schema : Columns) (t : Table) (commits : List Effects) (i : ℕ) (tree : Tree) → AreCommits schema t commits →
    slice_get (commit_trees schema t commits) i ≡ Some tree →
    merged_rows (rows_of (table_with_all t (take i commits))) tree.entries ≡ rows_of (table_with_all t (take (suc i) commits))
merged_at schema t [] i tree h e = cc e
merged_at schema t (x ∷ commits) zero tree h e =
    ap (λ (o : Option Tree). merged_rows (rows_of t) (entries_or o)) (sym e) ∙ merges schema t x h.0
  where
    entries_or : Option Tree → List Entry
    entries_or None = []
    entries_or (Some u) = u.entries
merged_at schema t (x ∷ commits) (suc i) tree h e = merged_at schema (table_with t x) commits i tree h.1 e

module _ (m : Managed) (l : Lower) (newest : LayeredVersion) (kept : List Tree) (h : HoldsNewest m l newest kept) (number : ℕ) where
  is_kept-true : number ≤ newest_number m → newest_number m - number < length kept → is_kept m number ≡ true
  is_kept-true within near =
      let count = kept_count m l newest kept h in
      let above : m.floor < number = omega (arith, count, within, near) in
      let recent : newest_number m - number < m.start.recent = omega (arith, count, within, near) in
      grind (arith, nat_tests)

  is_kept-past : newest_number m < number → is_kept m number ≡ false
  is_kept-past past = grind (arith, nat_tests)

  is_kept-old : number ≤ newest_number m → length kept ≤ newest_number m - number → is_kept m number ≡ false
  is_kept-old within far = let count = kept_count m l newest kept h in grind (arith, nat_tests)

  -- a tree that is kept stands where it is looked for
  pub kept_there : number ≤ newest_number m → newest_number m - number < length kept →
      slice_get kept ((length kept - 1) - (newest_number m - number)) ≡ kept_tree m number
  kept_there within near =
      let trees = commit_trees m.schema m.start.table (commits_in m) in
      let count = length-commit_trees m.schema m.start.table (commits_in m) in
      let few = kept_count m l newest kept h in
      let left = drop (m.floor - m.start.base) trees in
      let some = length-drop (m.floor - m.start.base) trees in
      let based = h.lawful.based in
      let reached = h.lawful.reached in
      let first = (m.floor - m.start.base) + (length left - m.start.recent) in
      let kept_is : kept ≡ drop first trees =
      h.kept_are ∙ drop-drop (length left - m.start.recent) (m.floor - m.start.base) trees in
      let at : number - suc m.start.base ≡ first + ((length kept - 1) - (newest_number m - number)) =
      omega (arith, count, some, few, based, reached, within, near) in
      ap (λ (ts : List Tree). slice_get ts ((length kept - 1) - (newest_number m - number))) kept_is
      ∙ slice_get-drop first trees ((length kept - 1) - (newest_number m - number)) (number - suc m.start.base) at
      ∙ sym (ap (λ b. cond b (slice_get trees (number - suc m.start.base)) None) (is_kept-true within near))

  pub kept_none_past : newest_number m < number → None ≡ kept_tree m number
  kept_none_past past =
      sym (ap (λ b. cond b (slice_get (commit_trees m.schema m.start.table (commits_in m)) (number - suc m.start.base)) None)
      (is_kept-past past))

  pub kept_none_old : number ≤ newest_number m → length kept ≤ newest_number m - number → None ≡ kept_tree m number
  kept_none_old within far =
      sym (ap (λ b. cond b (slice_get (commit_trees m.schema m.start.table (commits_in m)) (number - suc m.start.base)) None)
      (is_kept-old within far))

  -- and makes of the rows of the number before those of its own
  pub kept_merges : (tree : Tree) → number ≤ newest_number m → newest_number m - number < length kept → kept_tree m number ≡ Some tree →
      merged_rows (rows_at m (number - 1)) tree.entries ≡ rows_at m number
  kept_merges tree within near is =
      let few = kept_count m l newest kept h in
      let based = h.lawful.based in
      let i = number - suc m.start.base in
      let before : (number - 1) - m.start.base ≡ i = omega (arith, few, based, within, near) in
      let after : suc i ≡ number - m.start.base = omega (arith, few, based, within, near) in
      let found : slice_get (commit_trees m.schema m.start.table (commits_in m)) i ≡ Some tree =
      sym (ap (λ b. cond b (slice_get (commit_trees m.schema m.start.table (commits_in m)) i) None) (is_kept-true within near)) ∙ is in
      ap (λ n. merged_rows (rows_of (table_with_all m.start.table (take n (commits_in m)))) tree.entries) before
      ∙ merged_at m.schema m.start.table (commits_in m) i tree (each_fits m h.lawful) found
      ∙ ap (λ n. rows_of (table_with_all m.start.table (take n (commits_in m)))) after
