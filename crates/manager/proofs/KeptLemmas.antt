-- The trees that a manager keeps of the last commits.
use Rattle.std.proofs.Common.{◌≡◌, ℕ, zero, suc, ◌+◌, ◌-◌, ◌≤◌, List, [], ◌∷◌, ◌++◌, length, take, drop, refl, sym, ap, subst, ◌∙◌, arith}
use Rattle.std.proofs.lemmas.List.{drop-drop, length-append, length-drop}
use Rattle.circular_buffer.specs.Buffer.{keep_last}
use Rattle.values.specs.Shape.{Columns}
use Rattle.model.specs.Table.{Table}
use Rattle.model.specs.Effects.{Effects, table_with}
use Rattle.model.specs.History.{table_with_all}
use Rattle.delta.specs.Tree.{Tree}
use Rattle.layers.specs.Over.{tree_of}
use Rattle.txn.specs.Version.{Lower, LayeredVersion}
use Rattle.manager.specs.Managed.{Managed, commits_in, newest_number}
use Rattle.manager.specs.Kept.{HoldsNewest, commit_trees}

module _ (schema : Columns) where
  pub length-commit_trees : (t : Table) (commits : List Effects) → length (commit_trees schema t commits) ≡ length commits
  length-commit_trees t [] = refl
  length-commit_trees t (x ∷ commits) = ap suc (length-commit_trees (table_with t x) commits)

  -- the trees after the first j commits
  drop-commit_trees : (t : Table) (commits : List Effects) (j : ℕ) →
      drop j (commit_trees schema t commits) ≡ commit_trees schema (table_with_all t (take j commits)) (drop j commits)
  drop-commit_trees t commits zero = refl
  drop-commit_trees t [] (suc j) = refl
  drop-commit_trees t (x ∷ commits) (suc j) = drop-commit_trees (table_with t x) commits j

  -- one commit more is one tree more
  commit_trees-append : (t : Table) (commits : List Effects) (x : Effects) →
      commit_trees schema t (commits ++ x ∷ []) ≡ commit_trees schema t commits ++ tree_of schema (table_with_all t commits) x ∷ []
  commit_trees-append t [] x = refl
  commit_trees-append t (y ∷ commits) x = ap (λ ts. tree_of schema t y ∷ ts) (commit_trees-append (table_with t y) commits x)

  -- the kept trees from an index on are those of the commits after the first j
  pub kept_since : (t : Table) (commits : List Effects) (recent floor j first : ℕ) → floor ≤ j → j ≤ length commits →
      length commits - j ≤ recent →
      first + (length commits - j) ≡ length (keep_last recent (drop floor (commit_trees schema t commits))) →
      drop first (keep_last recent (drop floor (commit_trees schema t commits)))
      ≡ commit_trees schema (table_with_all t (take j commits)) (drop j commits)
  kept_since t commits recent floor j first above within few is =
      let trees = commit_trees schema t commits in
      let left = drop floor trees in
      let count = length-commit_trees t commits in
      let some = length-drop floor trees in
      let kept = length-drop (length left - recent) left in
      let at : floor + ((length left - recent) + first) ≡ j = omega (arith, count, some, kept, is, above, within, few) in
      drop-drop first (length left - recent) left
      ∙ drop-drop ((length left - recent) + first) floor trees
      ∙ ap (λ n. drop n trees) at
      ∙ drop-commit_trees t commits j

pub drop-within : {A : Type 0} (xs ys : List A) (n : ℕ) → n ≤ length xs → drop n (xs ++ ys) ≡ drop n xs ++ ys
drop-within xs ys zero h = refl
drop-within [] ys (suc n) h = absurd (omega arith)
drop-within (x ∷ xs) ys (suc n) h = drop-within xs ys n (omega arith)

-- the last of what is kept with one more are the last of all with one more
keep_last-again : {A : Type 0} (recent : ℕ) (xs : List A) (x : A)
    → keep_last recent (keep_last recent xs ++ x ∷ []) ≡ keep_last recent (xs ++ x ∷ [])
keep_last-again recent xs x =
    let n = length xs - recent in
    let kept = drop n xs in
    let within : n ≤ length xs = omega arith in
    let count = length-drop n xs in
    let more = length-append kept (x ∷ []) in
    let all = length-append xs (x ∷ []) in
    let at : n + (length (kept ++ x ∷ []) - recent) ≡ length (xs ++ x ∷ []) - recent = omega (arith, count, more, all) in
    ap (λ (ys : List _). drop (length (kept ++ x ∷ []) - recent) ys) (sym (drop-within xs (x ∷ []) n within))
    ∙ drop-drop (length (kept ++ x ∷ []) - recent) n (xs ++ x ∷ [])
    ∙ ap (λ k. drop k (xs ++ x ∷ [])) at

-- after one commit more the kept trees have its own
pub kept_next : (schema : Columns) (t : Table) (commits : List Effects) (recent floor : ℕ) (x : Effects) (tree : Tree) →
    floor ≤ length commits → tree ≡ tree_of schema (table_with_all t commits) x →
    keep_last recent (keep_last recent (drop floor (commit_trees schema t commits)) ++ tree ∷ [])
    ≡ keep_last recent (drop floor (commit_trees schema t (commits ++ x ∷ [])))
kept_next schema t commits recent floor x tree within is =
    let trees = commit_trees schema t commits in
    let count = length-commit_trees schema t commits in
    keep_last-again recent (drop floor trees) tree
    ∙ ap (keep_last recent) (sym (drop-within trees (tree ∷ []) floor (omega (arith, count, within))))
    ∙ ap (λ (u : Tree). keep_last recent (drop floor (trees ++ u ∷ []))) is
    ∙ ap (λ (us : List Tree). keep_last recent (drop floor us)) (sym (commit_trees-append schema t commits x))

-- how many trees are kept
pub kept_count : (m : Managed) (l : Lower) (newest : LayeredVersion) (kept : List Tree) → HoldsNewest m l newest kept
    → length kept ≡ (newest_number m - m.floor) - ((newest_number m - m.floor) - m.start.recent)
kept_count m l newest kept h =
    let trees = commit_trees m.schema m.start.table (commits_in m) in
    let left = drop (m.floor - m.start.base) trees in
    let based = h.lawful.based in
    let reached = h.lawful.reached in
    let all = length-commit_trees m.schema m.start.table (commits_in m) in
    let some = length-drop (m.floor - m.start.base) trees in
    let count : length left ≡ newest_number m - m.floor = omega (arith, based, reached, all, some) in
    ap (λ (ts : List Tree). length ts) h.kept_are
    ∙ length-drop (length left - m.start.recent) left
    ∙ ap (λ n. n - (n - m.start.recent)) count

-- what a manager holds, it holds as it is seen
pub holds : {m v : Managed} {l : Lower} {newest : LayeredVersion} {kept : List Tree} → m ≡ v → HoldsNewest m l newest kept
    → HoldsNewest v l newest kept
holds {l = l} {newest = newest} {kept = kept} same h = subst (λ (w : Managed). HoldsNewest w l newest kept) same h
