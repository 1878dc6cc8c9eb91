-- The tree of a transaction after each write is that of its effects.
use Rattle.std.proofs.Common.{◌≡◌, ℕ, cond, ◌&&◌, T, Option, Some, None, [], ◌∷◌, length, set, nat_cmp, refl, sym, ap, ◌∙◌, subst, is_eq, arith, rules}
use Rattle.std.specs.Ordering.{eq_by_cmp}
use Rattle.std.specs.List.{list_all}
use Rattle.std.specs.Cmp.{tied_itself}
use Rattle.values.specs.Orders.{key_cmp, key_cmp_total, key_cmp-IsAntisymmetric}
use Rattle.values.specs.declared.row.Row.{Row}
use Rattle.values.specs.declared.row.Key.{Key}
use Rattle.values.specs.declared.value.Value.{Value}
use Rattle.model.specs.declared.write.Write.{Write}
use Rattle.model.specs.declared.write.Write.TheVariants.{Insert, Delete, Set}
use Rattle.model.specs.Maps.{find, put, is_sorted, store, alter}
use Rattle.model.specs.Table.{Table, row_at, rank, is_keyed_table}
use Rattle.values.specs.Shape.{key_of}
use Rattle.model.specs.declared.effect.Effect.{Effect}
use Rattle.model.specs.declared.effect.Effect.TheVariants.{Ins, Del, Mod, Rep}
use Rattle.model.specs.Effects.{Effects, is_keyed_effect, are_keyed_effects, fits, all_fit, row_after, table_with}
use Rattle.model.specs.Composition.{composed_effect}
use Rattle.model.specs.Writes.{key_of_write, effect_of_write, reply_to, is_done, effects_after}
use Rattle.model.specs.Entries.{canonical_entries}
use Rattle.model.specs.Edits.{edited_entries}
use Rattle.model.proofs.MapsLemmas.{both, first, second, changed_by, holds_at, each_at}
use Rattle.model.proofs.CompositionLemmas.{row_at-table_with}
use Rattle.model.proofs.WritesLemmas.{done_fits}
use Rattle.model.proofs.EditsLemmas.{edited, insert-past, insert-row, insert-deleted, take-past, take-inserted, take-replaced, change-past, change-inserted, change-replaced, delete-past, delete-row, delete-modified, modify-past, modify-row, modify-modified}
use Rattle.std.proofs.lemmas.Grind.{common_steps}

tied_key : (k : Key) → T (eq_by_cmp key_cmp k k)
tied_key k = subst (λ r. T (is_eq r)) (sym (tied_itself key_cmp_total k)) tt

module _ (key_cols limit : ℕ) (t : Table) (es : Effects) (ht : T (is_keyed_table key_cols t))
    (he : T (are_keyed_effects key_cols es)) (fe : T (all_fit t es)) where
  all_lawful : (es : Effects) → T (list_all (λ e. is_keyed_effect key_cols e.0 e.1) es) → T (all_fit t es)
      → T (list_all (λ e. is_keyed_effect key_cols e.0 e.1 && fits (row_at t e.0) e.1) es)
  all_lawful [] h f = tt
  all_lawful (e ∷ es) h f =
      let lawful : T (is_keyed_effect key_cols e.0 e.1) = first _ _ h in
      let fit : T (fits (row_at t e.0) e.1) = first _ _ f in
      let head : T (is_keyed_effect key_cols e.0 e.1 && fits (row_at t e.0) e.1) = both (is_keyed_effect key_cols e.0 e.1) _ lawful fit in
      both _ _ head (all_lawful es (second _ _ h) (second _ _ f))

  sorted : T (is_sorted key_cmp es)
  sorted = first _ _ he

  lawful : T (list_all (λ e. is_keyed_effect key_cols e.0 e.1 && fits (row_at t e.0) e.1) es)
  lawful = all_lawful es (second _ _ he) fe

  -- by the effect so far
  pub inserted : (row : Row) (old : Option Effect) → find key_cmp (key_of key_cols row) es ≡ old
      → T (holds_at (fits (row_at t (key_of key_cols row))) old)
      → T (fits (changed_by row_after old (row_at t (key_of key_cols row))) (Ins row))
      → canonical_entries t (alter key_cmp (key_of key_cols row) (composed_effect (Ins row)) es)
      ≡ edited_entries key_cols (rank (key_of key_cols row) t) (Insert row) old (canonical_entries t es)
  inserted row None is fit done =
      let k = key_of key_cols row in
      ap (λ o. canonical_entries t (store key_cmp k (composed_effect (Ins row) o) es)) is
      ∙ edited key_cols t k (edited_entries key_cols (rank k t) (Insert row) None) (Some (Ins row)) es None is sorted lawful
      (insert-past key_cols t k row (tied_key k)) (insert-row key_cols t k row (tied_key k))
  inserted row (Some (Ins r)) is fit done = absurd done
  inserted row (Some Del) is fit done =
      let k = key_of key_cols row in
      ap (λ o. canonical_entries t (store key_cmp k (composed_effect (Ins row) o) es)) is
      ∙ edited key_cols t k (edited_entries key_cols (rank k t) (Insert row) None) (Some (Rep row)) es (Some Del) is sorted lawful
      (insert-past key_cols t k row (tied_key k)) (insert-deleted key_cols t k row (tied_key k))
  inserted row (Some (Mod c)) is fit done = search rules
  inserted row (Some (Rep r)) is fit done = absurd done

  module _ (k : Key) where
    -- the effect so far may stand at its key
    at_key : (old : Option Effect) → find key_cmp k es ≡ old → T (holds_at (is_keyed_effect key_cols k) old)
    at_key old is =
        subst (λ o. T (holds_at (is_keyed_effect key_cols k) o)) is
        (each_at key_cmp key_cmp_total key_cmp-IsAntisymmetric (is_keyed_effect key_cols) es (second _ _ he) k)

    -- where a delete fits after the effect so far, the entries with it are the edit of the entries before it
    pub deleted : (old : Option Effect) → find key_cmp k es ≡ old → T (holds_at (fits (row_at t k)) old)
        → T (fits (changed_by row_after old (row_at t k)) Del) → canonical_entries t (alter key_cmp k (composed_effect Del) es)
        ≡ edited_entries key_cols (rank k t) (Delete k) old (canonical_entries t es)
    deleted None is fit done =
        ap (λ o. canonical_entries t (store key_cmp k (composed_effect Del o) es)) is
        ∙ edited key_cols t k (edited_entries key_cols (rank k t) (Delete k) None) (Some Del) es None is sorted lawful
        (delete-past key_cols t k done) (delete-row key_cols t k done)
    deleted (Some (Ins row)) is fit done =
        ap (λ o. canonical_entries t (store key_cmp k (composed_effect Del o) es)) is
        ∙ edited key_cols t k (edited_entries key_cols (rank k t) (Delete k) (Some (Ins row))) None es (Some (Ins row)) is sorted
        lawful (take-past key_cols t k) (take-inserted key_cols t k row (at_key (Some (Ins row)) is))
    deleted (Some Del) is fit done = absurd done
    deleted (Some (Mod c)) is fit done =
        ap (λ o. canonical_entries t (store key_cmp k (composed_effect Del o) es)) is
        ∙ edited key_cols t k (edited_entries key_cols (rank k t) (Delete k) None) (Some Del) es (Some (Mod c)) is sorted lawful
        (delete-past key_cols t k fit) (delete-modified key_cols t k fit c)
    deleted (Some (Rep row)) is fit done =
        ap (λ o. canonical_entries t (store key_cmp k (composed_effect Del o) es)) is
        ∙ edited key_cols t k (edited_entries key_cols (rank k t) (Delete k) (Some (Rep row))) (Some Del) es (Some (Rep row)) is
        sorted lawful (take-past key_cols t k) (take-replaced key_cols t k row (at_key (Some (Rep row)) is))

    -- where a set of a cell fits after the effect so far, the entries with it are the edit of the entries before it
    pub modified : (col : ℕ) (value : Value) (old : Option Effect) → find key_cmp k es ≡ old
        → T (holds_at (fits (row_at t k)) old) → T (fits (changed_by row_after old (row_at t k)) (Mod ((col, value) ∷ [])))
        → canonical_entries t (alter key_cmp k (composed_effect (Mod ((col, value) ∷ []))) es)
        ≡ edited_entries key_cols (rank k t) (Set k col value) old (canonical_entries t es)
    modified col value None is fit done =
        ap (λ o. canonical_entries t (store key_cmp k (composed_effect (Mod ((col, value) ∷ [])) o) es)) is
        ∙ edited key_cols t k (edited_entries key_cols (rank k t) (Set k col value) None) (Some (Mod ((col, value) ∷ []))) es None
        is sorted lawful (modify-past key_cols t k done col value) (modify-row key_cols t k done col value)
    modified col value (Some (Ins row)) is fit done =
        ap (λ o. canonical_entries t (store key_cmp k (composed_effect (Mod ((col, value) ∷ [])) o) es)) is
        ∙ edited key_cols t k (edited_entries key_cols (rank k t) (Set k col value) (Some (Ins row)))
        (Some (Ins (set row col value))) es (Some (Ins row)) is sorted lawful (change-past key_cols t k col value)
        (change-inserted key_cols t k col value row (at_key (Some (Ins row)) is))
    modified col value (Some Del) is fit done = absurd done
    modified col value (Some (Mod c)) is fit done =
        ap (λ o. canonical_entries t (store key_cmp k (composed_effect (Mod ((col, value) ∷ [])) o) es)) is
        ∙ edited key_cols t k (edited_entries key_cols (rank k t) (Set k col value) None) (Some (Mod (put nat_cmp col value c)))
        es (Some (Mod c)) is sorted lawful (modify-past key_cols t k fit col value)
        (modify-modified key_cols t k fit col value c)
    modified col value (Some (Rep row)) is fit done =
        ap (λ o. canonical_entries t (store key_cmp k (composed_effect (Mod ((col, value) ∷ [])) o) es)) is
        ∙ edited key_cols t k (edited_entries key_cols (rank k t) (Set k col value) (Some (Rep row)))
        (Some (Rep (set row col value))) es (Some (Rep row)) is sorted lawful (change-past key_cols t k col value)
        (change-replaced key_cols t k col value row (at_key (Some (Rep row)) is))

    abbrev pub fits_now : Effect → Type 0
    fits_now f = T (fits (changed_by row_after (find key_cmp k es) (row_at t k)) f)

    -- the effect so far on the key, if any, fits what stands there in the table
    pub fit_so_far : T (holds_at (fits (row_at t k)) (find key_cmp k es))
    fit_so_far = each_at key_cmp key_cmp_total key_cmp-IsAntisymmetric (λ j f. fits (row_at t j) f) es fe k

    -- an effect that fits the key in the table after the effects fits what the effect so far makes of the row there
    pub fits_here : (f : Effect) → T (fits (row_at (table_with t es) k) f) → fits_now f
    fits_here f h = subst (λ old. T (fits old f)) (row_at-table_with t es k sorted) h

  by_write : (write : Write) → T (is_done (reply_to key_cols limit t es write))
      → canonical_entries t (alter key_cmp (key_of_write key_cols write) (composed_effect (effect_of_write write)) es)
      ≡ edited_entries key_cols (rank (key_of_write key_cols write) t) write (find key_cmp (key_of_write key_cols write) es)
      (canonical_entries t es)
  by_write (Insert row) done =
      let k = key_of key_cols row in
      inserted row (find key_cmp k es) refl (fit_so_far k) (fits_here k (Ins row)
      (done_fits key_cols limit t es ht he fe (row_at (table_with t es) k) (length (table_with t es)) (Insert row) done))
  by_write (Delete k) done =
      deleted k (find key_cmp k es) refl (fit_so_far k) (fits_here k Del
      (done_fits key_cols limit t es ht he fe (row_at (table_with t es) k) (length (table_with t es)) (Delete k) done))
  by_write (Set k col value) done =
      modified k col value (find key_cmp k es) refl (fit_so_far k)
      (fits_here k (Mod ((col, value) ∷ []))
      (done_fits key_cols limit t es ht he fe (row_at (table_with t es) k) (length (table_with t es)) (Set k col value) done))

  -- a write that is done edits the tree at its key's place, and another leaves it
  pub canonical_entries-written : (write : Write) → canonical_entries t (effects_after key_cols limit t es write)
      ≡ cond (is_done (reply_to key_cols limit t es write))
      (edited_entries key_cols (rank (key_of_write key_cols write) t) write (find key_cmp (key_of_write key_cols write) es)
      (canonical_entries t es))
      (canonical_entries t es)
  canonical_entries-written write = grind (arith, common_steps, by_write)
