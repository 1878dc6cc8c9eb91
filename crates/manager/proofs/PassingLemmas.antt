-- A tree on its way through the trees of commits.
use Rattle.std.proofs.Common.{◌≡◌, ℕ, zero, suc, ◌+◌, ◌≤◌, Bool, true, false, ◌||◌, Some, List, [], ◌∷◌, length, take, drop, refl, sym, ap, ◌∙◌, subst, arith}
use Rattle.std.specs.Prelude.{slice_get}
use Rattle.std.specs.List.{list_any}
use Rattle.values.specs.Shape.{Columns, IsSchema}
use Rattle.model.specs.declared.clash.ConflictRule.{ConflictRule}
use Rattle.model.specs.Table.{Table}
use Rattle.model.specs.Effects.{Effects, AreOver, table_with}
use Rattle.model.specs.Clashes.{conflicts}
use Rattle.model.specs.Entries.{canonical_entries}
use Rattle.model.specs.Places.{insert_count}
use Rattle.model.specs.History.{table_with_all}
use Rattle.model.specs.Laws.{AreCommits}
use Rattle.model.proofs.CallerLemmas.{rebases}
use Rattle.delta.specs.Tree.{Tree}
use Rattle.delta.proofs.CallerLemmas.{insert_count-any, inserts_few}
use Rattle.layers.specs.Over.{tree_of, AreAligned}
use Rattle.merge.proofs.CallerLemmas.{drop-at}
use Rattle.manager.specs.Kept.{commit_trees}
use Rattle.manager.specs.Passing.{MayPass}

module _ (rule : ConflictRule) (schema : Columns) (x : Effects) (all : List Effects) (newest : Table) where
  -- the tree is consecutive to all commits but the rest, with none of which it conflicts
  pub record IsOnItsWay (kept : List Tree) (tree : Tree) : Type 0 where
    pub now : Table
    pub rest : List Effects
    pub over : AreOver schema now x
    pub tree_is : tree ≡ tree_of schema now x
    pub few : insert_count (canonical_entries now x) ≤ 2147483647
    pub kept_are : kept ≡ commit_trees schema now rest
    pub commits : AreCommits schema now rest
    pub within : (k : ℕ) → length (table_with_all now (take k rest)) ≤ 2147483647
    pub verdict : list_any (conflicts rule x) all ≡ list_any (conflicts rule x) rest
    pub last : table_with_all now rest ≡ newest

head_is : {A : Type 0} {x y : A} {xs ys : List A} → x ∷ xs ≡ y ∷ ys → x ≡ y
head_is e = cc

tail_is : {A : Type 0} {x y : A} {xs ys : List A} → x ∷ xs ≡ y ∷ ys → xs ≡ ys
tail_is e = cc

or_true : (b c : Bool) → b ≡ true → (b || c) ≡ true
or_true b c e = ap (λ d. d || c) e

or_false : (b c : Bool) → b ≡ false → (b || c) ≡ c
or_false b c e = ap (λ d. d || c) e

module _ (rule : ConflictRule) (schema : Columns) (x : Effects) (all : List Effects) (newest : Table) (lawful : IsSchema schema) where
  -- one commit more
  module _ (kept : List Tree) (tree : Tree) (n : ℕ) (other : Tree) (at : slice_get kept n ≡ Some other) where
    abbrev Way : List Tree → Tree → Type 0
    Way = IsOnItsWay rule schema x all newest

    -- what the way comes to with a commit more
    pub record IsMet (w : Way (drop n kept) tree) : Type 0 where
      pub y : Effects
      pub later : List Effects
      pub rest_is : w.rest ≡ y ∷ later
      pub other_is : other ≡ tree_of schema w.now y
      pub kept_are : drop (n + 1) kept ≡ commit_trees schema (table_with w.now y) later

    pub met : (w : Way (drop n kept) tree) → IsMet w
    met w = by w.rest refl
      where
        here : drop n kept ≡ other ∷ drop (n + 1) kept
        here = drop-at kept n other at

        by : (rest : List Effects) → w.rest ≡ rest → IsMet w
        by [] is = let none : other ∷ drop (n + 1) kept ≡ [] = sym here ∙ w.kept_are ∙ ap (commit_trees schema w.now) is in cc
        by (y ∷ later) is =
            let split : other ∷ drop (n + 1) kept ≡ tree_of schema w.now y ∷ commit_trees schema (table_with w.now y) later =
            sym here ∙ w.kept_are ∙ ap (commit_trees schema w.now) is in
            record { y = y; later = later; rest_is = is; other_is = head_is split; kept_are = tail_is split }

    module _ (w : Way (drop n kept) tree) (m : IsMet w) where
      pub over_y : AreOver schema w.now m.y
      over_y = (subst (AreCommits schema w.now) m.rest_is w.commits).0

      pub first_within : length (table_with w.now m.y) ≤ 2147483647
      first_within = subst (λ (cs : List Effects). length (table_with_all w.now (take 1 cs)) ≤ 2147483647) m.rest_is (w.within 1)

      -- both stand over the table that the commit found
      abbrev pub aligned : AreAligned tree other
      aligned = record {
        schema = schema;
        t = w.now;
        x = x;
        y = m.y;
        small = record { lawful = lawful; rows = w.within 0 };
        x_is = record {
          over = w.over;
          tree_is = w.tree_is;
          few = subst (λ (t : Tree). insert_count t.entries ≤ 2147483647) (sym w.tree_is) w.few;
        };
        y_is = record {
          over = over_y;
          tree_is = m.other_is;
          few =
              let bound = inserts_few schema w.now m.y over_y in
              let within = first_within in
              subst (λ (t : Tree). insert_count t.entries ≤ 2147483647) (sym m.other_is) (omega (arith, bound, within));
        };
      }

      verdict_is : list_any (conflicts rule x) all ≡ (conflicts rule x m.y || list_any (conflicts rule x) m.later)
      verdict_is = w.verdict ∙ ap (list_any (conflicts rule x)) m.rest_is

      -- a conflict with it is one with them all
      pub stopped : conflicts rule x m.y ≡ true → list_any (conflicts rule x) all ≡ true
      stopped clash = verdict_is ∙ or_true _ _ clash

      -- and where there is none the way goes on
      pub goes_on : (next : Tree) → conflicts rule x m.y ≡ false → next ≡ tree_of schema (table_with w.now m.y) x
          → Way (drop (n + 1) kept) next
      goes_on next clear next_is = record {
        now = table_with w.now m.y;
        rest = m.later;
        over = (rebases schema rule w.now x m.y w.over over_y clear).0;
        tree_is = next_is;
        few = subst (λ k. k ≤ 2147483647) (insert_count-any w.now (table_with w.now m.y) x) w.few;
        kept_are = m.kept_are;
        commits = (subst (AreCommits schema w.now) m.rest_is w.commits).1;
        within =
            λ k. subst (λ (cs : List Effects). length (table_with_all w.now (take (suc k) cs)) ≤ 2147483647) m.rest_is
            (w.within (suc k));
        verdict = verdict_is ∙ or_false _ _ clear;
        last = sym (ap (table_with_all w.now) m.rest_is) ∙ w.last;
      }

  -- at the end none is left
  pub ended : (kept : List Tree) (tree : Tree) → kept ≡ [] → IsOnItsWay rule schema x all newest kept tree →
      (list_any (conflicts rule x) all ≡ false) × (tree ≡ tree_of schema newest x)
  ended kept tree none w = by w.rest refl
    where
      by : (rest : List Effects) → w.rest ≡ rest → (list_any (conflicts rule x) all ≡ false) × (tree ≡ tree_of schema newest x)
      by [] is = (
        w.verdict ∙ ap (list_any (conflicts rule x)) is,
        w.tree_is ∙ ap (λ (t : Table). tree_of schema t x) (sym (ap (table_with_all w.now) is) ∙ w.last),
      )
      by (y ∷ later) is =
          let some : tree_of schema w.now y ∷ commit_trees schema (table_with w.now y) later ≡ [] =
          sym (w.kept_are ∙ ap (commit_trees schema w.now) is) ∙ none in
          cc

-- the way begins
pub begins : (rule : ConflictRule) (kept : List Tree) (tree : Tree) (w : MayPass rule kept tree)
    → IsOnItsWay rule w.schema w.x w.rest (table_with_all w.now w.rest) kept tree
begins rule kept tree w = record {
  now = w.now;
  rest = w.rest;
  over = w.over;
  tree_is = w.tree_is;
  few = subst (λ (t : Tree). insert_count t.entries ≤ 2147483647) w.tree_is w.few;
  kept_are = w.kept_are;
  commits = w.commits;
  within = w.within;
  verdict = refl;
  last = refl;
}

pub nothing_past : {A : Type 0} (xs : List A) (n : ℕ) → length xs ≤ n → drop n xs ≡ []
nothing_past [] zero h = refl
nothing_past [] (suc n) h = refl
nothing_past (x ∷ xs) zero h = absurd (omega arith)
nothing_past (x ∷ xs) (suc n) h = nothing_past xs n (omega arith)
