-- A transaction against the commits since its begin, one at a time.
use Rattle.std.proofs.Common.{◌≡◌, true, false, cond, ◌||◌, Option, Some, None, is_some, List, [], ◌∷◌, refl, ap, ◌∙◌}
use Rattle.std.specs.List.{list_any}
use Rattle.values.specs.Shape.{Columns}
use Rattle.model.specs.declared.entry.Entry.{Entry}
use Rattle.model.specs.Effects.{AreOver, table_with}
use Rattle.model.specs.Clashes.{conflicts}
use Rattle.model.specs.Entries.{canonical_entries}
use Rattle.model.specs.Rebasing.{first_clash, rebased_entries, passed_entries}
use Rattle.model.specs.History.{table_with_all}
use Rattle.model.specs.Laws.{ConflictIsFound, RebasesEntries, trees_of, DecidesInTurn, FitsTheNewest}

module _ (schema : Columns) (rebases : RebasesEntries schema) where
  -- effects that conflict with none of the commits fit the newest table
  pub over-table_with_all : FitsTheNewest schema
  over-table_with_all rule t x [] h commits_are free = h
  over-table_with_all rule t x (y ∷ commits) h commits_are free =
      elim (conflicts rule x y) as (λ b. conflicts rule x y ≡ b → (b || list_any (conflicts rule x) commits) ≡ false
      → AreOver schema (table_with_all (table_with t y) commits) x) [
        | true ↦ λ found none. cc
        | false ↦ λ found none. over-table_with_all rule (table_with t y) x commits (rebases rule t x y h commits_are.0 found).0
            commits_are.1 none
      ] refl free

  module _ (finds : ConflictIsFound schema) where
    -- entries pass the trees of the commits where the effects conflict with none, and are then those over the newest table
    pub passed_entries-trees_of : DecidesInTurn schema
    passed_entries-trees_of rule t x [] h commits_are = refl
    passed_entries-trees_of rule t x (y ∷ commits) h commits_are =
        let xs = canonical_entries t x in
        let ys = canonical_entries t y in
        let rest : Option (List Entry) =
        passed_entries rule schema.key_cols (trees_of schema (table_with t y) commits) (rebased_entries schema.key_cols ys xs)
        in
        let found : is_some (first_clash rule schema.key_cols xs ys) ≡ conflicts rule x y = finds rule t x y h commits_are.0 in
        ap (λ b. cond b None rest) found
        ∙ elim (conflicts rule x y) as
        (λ b. conflicts rule x y ≡ b → cond b None rest ≡ cond (b || list_any (conflicts rule x) commits) None
        (Some (canonical_entries (table_with_all (table_with t y) commits) x))) [
          | true ↦ λ is. refl
          | false ↦ λ is.
              let moved = rebases rule t x y h commits_are.0 is in
              ap (passed_entries rule schema.key_cols (trees_of schema (table_with t y) commits)) moved.1
              ∙ passed_entries-trees_of rule (table_with t y) x commits moved.0 commits_are.1
        ] refl
