-- The laws, in the words that contracts cite.
use Rattle.std.proofs.Common.{Bool, true, false, cond, T, [], ◌∷◌, refl}
use Rattle.std.specs.Prelude.{IsTrue}
use Rattle.std.specs.List.{list_all}
use Rattle.std.proofs.lemmas.Float.{T_from_true}
use Rattle.values.specs.Orders.{key_cmp}
use Rattle.values.specs.Shape.{Columns, fits_schema}
use Rattle.model.specs.declared.write.Write.{Write}
use Rattle.model.specs.Maps.{is_sorted}
use Rattle.model.specs.Table.{Table, is_keyed_table}
use Rattle.model.specs.Effects.{Effects, effect_fits_schema, are_keyed_effects, all_fit, table_with, AreOver}
use Rattle.model.specs.Composition.{composed_effects}
use Rattle.model.specs.Writes.{write_fits_schema, key_of_write, effect_of_write, reply_to, is_done, effects_after}
use Rattle.model.specs.Laws.{MergesToTable, LeavesTable, ComposesInTurn, WriteKeeps, WritesKeep, WriteEdits, EntriesAreOrdered, ConflictIsFound, RebasesEntries, FoldsToComposed, DecidesInTurn, FitsTheNewest, LegalCommitsFit}
use Rattle.model.proofs.MapsLemmas.{first, second}
use Rattle.model.proofs.MergingLemmas.{merged_rows-canonical_entries}
use Rattle.model.proofs.CompositionLemmas.{table_with-composed_effects, all_fit-composed_effects}
use Rattle.model.proofs.WritesLemmas.{is_keyed_table-table_with, are_keyed_effects-composed_effects, follows, write_kept}
use Rattle.model.proofs.FittingLemmas.{composed_effects-fit, table_with-fits, effect_of_write-fits, sets_no_key-fits}
use Rattle.model.proofs.WriteEditsLemmas.{canonical_entries-written}
use Rattle.model.proofs.ClashesLemmas.{first_clash-canonical_entries, all_fit-unclashed}
use Rattle.model.proofs.RebasingLemmas.{rebased_entry-canonical_entries}
use Rattle.model.proofs.FoldingLemmas.{folded_entries-canonical_entries}
use Rattle.model.proofs.EntriesLemmas.{ordered-canonical_entries}
use Rattle.model.proofs.SplitLemmas.{canonical_entries-placed}
use Rattle.model.proofs.TurnsLemmas.{over-table_with_all, passed_entries-trees_of}
use Rattle.model.proofs.HistoryLemmas.{over-effects_after_all, AreCommits-commits_of}

is_true : (b : Bool) → T b → IsTrue b
is_true true h = refl
is_true false h = absurd h

-- the tests behind the records
record Tests (schema : Columns) (t : Table) (x : Effects) : Type 0 where
  table : T (is_keyed_table schema.key_cols t)
  rows_fit : T (list_all (λ e. fits_schema schema e.1) t)
  effects : T (are_keyed_effects schema.key_cols x)
  effects_fit : T (list_all (λ e. effect_fits_schema schema e.1) x)
  fit : T (all_fit t x)

module _ (schema : Columns) where
  tests : (t : Table) (x : Effects) → AreOver schema t x → Tests schema t x
  tests t x h = record {
    table = T_from_true _ h.table.keyed;
    rows_fit = T_from_true _ h.table.fitting;
    effects = T_from_true _ h.effects_are.keyed;
    effects_fit = T_from_true _ h.effects_are.fitting;
    fit = T_from_true _ h.fit;
  }

  over : (t : Table) (x : Effects) → Tests schema t x → AreOver schema t x
  over t x h = record {
    table = record { keyed = is_true _ h.table; fitting = is_true _ h.rows_fit };
    effects_are = record { keyed = is_true _ h.effects; fitting = is_true _ h.effects_fit };
    fit = is_true _ h.fit;
  }

  pub merges : MergesToTable schema
  merges t x h = let k = tests t x h in merged_rows-canonical_entries t x (first _ _ k.table) (first _ _ k.effects) k.fit

  -- effects over a table leave a table of the schema
  pub leaves : LeavesTable schema
  leaves t x h =
      let k = tests t x h in
      record {
        keyed = is_true _ (is_keyed_table-table_with schema.key_cols t x k.table k.effects);
        fitting = is_true _ (table_with-fits schema t x (first _ _ k.table) (first _ _ k.effects) k.rows_fit k.effects_fit);
      }

  -- a transaction's effects and then another's, composed, are over the first table and leave what both leave in turn
  pub composes : ComposesInTurn schema
  composes t x f h g =
      let k = tests t x h in
      let l = tests (table_with t x) f g in
      let in_turn = follows schema.key_cols t x f k.table k.effects k.fit l.effects l.fit in (
        over t (composed_effects x f) (record {
          table = k.table;
          rows_fit = k.rows_fit;
          effects = are_keyed_effects-composed_effects schema.key_cols x f k.effects l.effects;
          effects_fit = composed_effects-fit schema x f (first _ _ k.effects) (first _ _ l.effects) k.effects_fit l.effects_fit;
          fit = all_fit-composed_effects t x f in_turn;
        }),
        table_with-composed_effects t x f in_turn,
      )

  -- the effects of a write alone, after those so far
  written_fit : (x : Effects) (write : Write) (done : Bool) → T (is_sorted key_cmp x)
      → T (list_all (λ e. effect_fits_schema schema e.1) x) → T (write_fits_schema schema write) →
      T (list_all (λ e. effect_fits_schema schema e.1)
      (cond done (composed_effects x ((key_of_write schema.key_cols write, effect_of_write write) ∷ [])) x))
  written_fit x write true sorted h is =
      composed_effects-fit schema x ((key_of_write schema.key_cols write, effect_of_write write) ∷ []) sorted tt h
      (effect_of_write-fits schema write is)
  written_fit x write false sorted h is = h

  -- the effects after a write that fits the schema are over the snapshot still
  pub keeps : WriteKeeps schema
  keeps limit t x write h is =
      let k = tests t x h in
      let fitting = T_from_true _ is in
      let kept = write_kept schema.key_cols limit t x k.table k.effects k.fit write (sets_no_key-fits schema write fitting) in
      over t (effects_after schema.key_cols limit t x write) (record {
        table = k.table;
        rows_fit = k.rows_fit;
        effects = kept.lawful;
        effects_fit = written_fit x write (is_done (reply_to schema.key_cols limit t x write)) (first _ _ k.effects) k.effects_fit fitting;
        fit = kept.fit;
      })

  -- a write that is done is one edit of the entries, and any other leaves them
  pub edits : WriteEdits schema
  edits limit t x write h = let k = tests t x h in canonical_entries-written schema.key_cols limit t x k.table k.effects k.fit write

  -- two transactions conflict just where a first clash of their entries is found
  pub finds : ConflictIsFound schema
  finds rule t x y h g =
      let k = tests t x h in
      let l = tests t y g in
      first_clash-canonical_entries rule schema.key_cols t x y k.effects l.effects k.fit l.fit

  -- without a conflict the one's effects are over the table after the other's, and its rebased entries are those there
  pub rebases : RebasesEntries schema
  rebases rule t x y h g free =
      let k = tests t x h in
      let l = tests t y g in (
        record {
          table = leaves t y g;
          effects_are = h.effects_are;
          fit = is_true _ (all_fit-unclashed rule t x y (first _ _ l.effects) k.fit l.fit free);
        },
        rebased_entry-canonical_entries rule schema.key_cols t x y (first _ _ k.table) k.effects l.effects k.fit l.fit free,
      )

  pub folds : FoldsToComposed schema
  folds t x f h g =
      let k = tests t x h in
      let l = tests (table_with t x) f g in
      folded_entries-canonical_entries schema.key_cols t x f (record {
        table_sorted = first _ _ k.table;
        x_sorted = first _ _ k.effects;
        x_effects = second _ _ k.effects;
        x_fits = k.fit;
        f_sorted = first _ _ l.effects;
        f_effects = second _ _ l.effects;
        f_fits = l.fit;
      })

  -- the entries of effects over a table stand in order, none past the last row
  pub ordered : EntriesAreOrdered schema
  ordered t x h =
      let k = tests t x h in
      record { ordered = is_true _ (ordered-canonical_entries schema.key_cols t x k.effects k.fit); placed = canonical_entries-placed t x }

  -- the effects after writes in order, each fitting the schema, are over the snapshot still
  pub all_keep : WritesKeep schema
  all_keep = over-effects_after_all schema keeps

  pub decides : DecidesInTurn schema
  decides = passed_entries-trees_of schema rebases finds

  -- effects that conflict with none of the commits since are over the newest table
  pub fits_newest : FitsTheNewest schema
  fits_newest = over-table_with_all schema rebases

  -- the commits of a legal history are each over the table that it found
  pub commits_fit : LegalCommitsFit schema
  commits_fit = AreCommits-commits_of schema leaves keeps rebases
