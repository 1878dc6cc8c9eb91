-- The layers of the newest version over another stable table.
use Rattle.std.proofs.Common.{◌≡◌, ℕ, List, length, sym, ap, ◌∙◌, subst, arith}
use Rattle.std.proofs.lemmas.List.{length-map}
use Rattle.model.specs.Table.{Table, table_of}
use Rattle.model.specs.Effects.{AreOver, table_with}
use Rattle.model.specs.Entries.{canonical_entries}
use Rattle.model.specs.Merging.{merged_rows}
use Rattle.model.proofs.CallerLemmas.{leaves, merged_rows_from_nothing}
use Rattle.delta.specs.Tree.{Tree}
use Rattle.stable.specs.Stable.{IsStable, table_in}
use Rattle.txn.specs.Version.{Lower, AreLower, LayeredVersion, empty_tree, lower_table, version_of}
use Rattle.txn.proofs.CallerLemmas.{lower_table_is, no_layer}
use Rattle.manager.specs.Managed.{Managed, newest_table}
use Rattle.manager.specs.Layered.{Layered, IsFolded}
use Rattle.manager.specs.Restacked.{restacked, stable_below, stable_of}
use Rattle.manager.specs.Kept.{AreFolded, HoldsNewest}
use Rattle.manager.proofs.GrantLemmas.{folded_table, schema_is, written_is}

module _ (m : Managed) (l : Lower) (newest : LayeredVersion) (kept : List Tree) (h : HoldsNewest m l newest kept) where
  -- the layers with nothing in the Write-PDT
  abbrev below : Lower
  below = record { stable = l.stable; read = l.read; write = empty_tree l.stable.schema.key_cols }

  abbrev are_below : AreLower below
  are_below =
      let lower = h.folded.lower.lower in
      record {
        lower = lower;
        middle =
            no_layer l.stable.schema (folded_table m l newest kept h)
            (leaves l.stable.schema (table_in l.stable) lower.effects lower.over);
      }

  -- their rows are those of the table under the Read-PDT
  pub table_below : table_in (stable_below l) ≡ folded_table m l newest kept h
  table_below =
      let rows = merged_rows l.stable.rows l.read.entries in
      sym (ap (table_of l.stable.schema.key_cols) (merged_rows_from_nothing 0 rows)) ∙ lower_table_is below are_below

  module _ (lawful : IsStable (stable_below l)) where
    abbrev pub restacked_folded : AreFolded (restacked l)
    restacked_folded =
        let s = stable_below l in
        let middle = h.folded.lower.middle in
        let schema = l.stable.schema in
        let rows : length (table_in s) ≡ length s.rows = length-map _ _ in
        let few = lawful.few in
        record {
          lower = record {
            lower = no_layer schema (table_in s) lawful.table;
            middle = record {
              key_cols = middle.key_cols;
              effects = middle.effects;
              over = subst (λ (t : Table). AreOver schema t middle.effects) (sym table_below) middle.over;
              entries = middle.entries ∙ ap (λ (t : Table). canonical_entries t middle.effects) (sym table_below);
            };
          };
          stable_few = few;
          few = omega (arith, rows, few);
        }

    pub restacked_table : lower_table (restacked l) ≡ newest_table m
    restacked_table =
        let middle = h.folded.lower.middle in
        lower_table_is (restacked l) restacked_folded.lower
        ∙ ap (λ (t : Table). table_with t middle.effects) table_below
        ∙ written_is m l newest kept h

    -- it is the same version
    pub restacked_version : (n : ℕ) → version_of (restacked l) n ≡ record { schema = m.schema; table = newest_table m; number = n }
    restacked_version n = λ i. record { schema = schema_is m l newest kept h i; table = restacked_table i; number = n }

-- the version that a fold leaves has the rows below its Write-PDT
pub stable_of-folded : (m : Managed) (folded : Layered) → IsFolded m folded → stable_of folded.version ≡ stable_below folded.layers
stable_of-folded m folded h =
    let l = folded.layers in
    let rows = merged_rows l.stable.rows l.read.entries in
    let none : merged_rows rows l.write.entries ≡ rows =
    ap (λ (t : Tree). merged_rows rows t.entries) h.merged.write ∙ merged_rows_from_nothing 0 rows in
    ap stable_of h.layers_are ∙ (λ i. record { schema = l.stable.schema; rows = none i })
