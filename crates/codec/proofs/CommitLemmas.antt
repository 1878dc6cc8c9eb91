-- The entries of a commit can be written.
use Rattle.std.proofs.Common.{◌≡◌, ℕ, T, Bool, true, false, cond, Some, [], ◌∷◌, map, refl, sym, ap, ◌∙◌, subst, arith}
use Rattle.std.specs.Prelude.{is_some}
use Rattle.std.specs.List.{All, list_all}
use Rattle.std.specs.Ordering.{eq_by_cmp}
use Rattle.std.proofs.lemmas.List.Elements.{All-nil, All-cons, All-append}
use Rattle.values.specs.Orders.{key_cmp}
use Rattle.values.specs.Shape.{Columns, key_of, fits_schema, key_fits_schema, cell_fits_schema}
use Rattle.values.specs.declared.row.Key.{Key}
use Rattle.model.specs.declared.entry.Entry.{Entry}
use Rattle.model.specs.declared.entry.Change.TheVariants.{Ins, Del, Mod}
use Rattle.model.specs.declared.effect.Effect.{Effect}
use Rattle.model.specs.declared.effect.Effect.TheVariants as effect
use Rattle.model.specs.Effects.{Cells, Effects, effect_fits_schema, fits, all_fit}
use Rattle.model.specs.Entries.{canonical_entries, entries_of, entry_at}
use Rattle.model.specs.Table.{Table, IsTable, row_at, rank}
use Rattle.model.proofs.CallerLemmas.{first, second, same_key, canonical_entries-placed}
use Rattle.codec.specs.Fit.{change_fits}
use Rattle.codec.specs.Laws.{CommitEntriesFit}
use Rattle.codec.proofs.FitLemmas.{key_of_row}

told : (b : Bool) → b ≡ true → T b
told b h = subst T (sym h) tt

holds : (b : Bool) → T b → b ≡ true
holds true h = refl
holds false h = absurd h

key_found : (schema : Columns) (key : Key) (t : Table) → T (list_all (λ e. eq_by_cmp key_cmp e.0 (key_of schema.key_cols e.1)) t)
    → T (list_all (λ e. fits_schema schema e.1) t) → T (is_some (row_at t key)) → key_fits_schema schema key ≡ true
key_found schema key [] keyed fit there = absurd there
key_found schema key (e ∷ t) keyed fit there =
    elim (eq_by_cmp key_cmp key e.0) as
    (λ b. eq_by_cmp key_cmp key e.0 ≡ b → T (is_some (cond b (Some e.1) (row_at t key))) → key_fits_schema schema key ≡ true) [
      | true ↦ λ tied _.
          ap (key_fits_schema schema)
          (same_key key e.0 (subst T (sym tied) tt) ∙ same_key e.0 (key_of schema.key_cols e.1) (first _ _ keyed))
          ∙ key_of_row schema e.1 (holds _ (first _ _ fit))
      | false ↦ λ _ later. key_found schema key t (second _ _ keyed) (second _ _ fit) later
    ] refl there

module _ (schema : Columns) (t : Table) (table : IsTable schema t) where
  -- the key of a row of the table fits
  key_fits : (key : Key) → T (is_some (row_at t key)) → key_fits_schema schema key ≡ true
  key_fits key there = key_found schema key t (second _ _ (told _ table.keyed)) (told _ table.fitting) there

  abbrev Shaped : Entry → Type 0
  Shaped entry = change_fits schema entry.change ≡ true

  cells_shaped : (sid : ℕ) (cells : Cells) → T (list_all (λ c. cell_fits_schema schema c.0 c.1) cells)
      → All Shaped (map (λ c. entry_at sid (Mod c.0 c.1)) cells)
  cells_shaped sid [] fit = All-nil Shaped
  cells_shaped sid (c ∷ cells) fit =
      All-cons Shaped (entry_at sid (Mod c.0 c.1)) (map (λ c. entry_at sid (Mod c.0 c.1)) cells) (holds _ (first _ _ fit))
      (cells_shaped sid cells (second _ _ fit))

  one_shaped : (entry : Entry) → Shaped entry → All Shaped (entry ∷ [])
  one_shaped entry h = All-cons Shaped entry [] h (All-nil Shaped)

  effect_shaped : (sid : ℕ) (key : Key) (e : Effect) → T (effect_fits_schema schema e) → T (fits (row_at t key) e)
      → All Shaped (entries_of sid key e)
  effect_shaped sid key (effect.Ins row) shaped fit = one_shaped (entry_at sid (Ins row)) (holds _ shaped)
  effect_shaped sid key effect.Del shaped fit = one_shaped (entry_at sid (Del key)) (key_fits key fit)
  effect_shaped sid key (effect.Mod cells) shaped fit = cells_shaped sid cells shaped
  effect_shaped sid key (effect.Rep row) shaped fit =
      All-cons Shaped (entry_at sid (Ins row)) (entry_at sid (Del key) ∷ []) (holds _ shaped)
      (one_shaped (entry_at sid (Del key)) (key_fits key fit))

  effects_shaped : (effects : Effects) → T (list_all (λ e. effect_fits_schema schema e.1) effects) → T (all_fit t effects)
      → All Shaped (canonical_entries t effects)
  effects_shaped [] shaped fit = All-nil Shaped
  effects_shaped (e ∷ effects) shaped fit =
      All-append Shaped (entries_of (rank e.0 t) e.0 e.1) (canonical_entries t effects)
      (effect_shaped (rank e.0 t) e.0 e.1 (first _ _ shaped) (first _ _ fit)) (effects_shaped effects (second _ _ shaped) (second _ _ fit))

pub commit_entries_fit : CommitEntriesFit
commit_entries_fit schema t effects lawful over few k d lt =
    let shaped = effects_shaped schema t over.table effects (told _ over.effects_are.fitting) (told _ over.fit) k d lt in
    let placed = canonical_entries-placed t effects k d lt in
    record { placed = omega (arith, placed, few); shaped = shaped }
