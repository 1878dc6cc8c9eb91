-- A change keeps the list lawful.
use Rattle.std.proofs.Common.{is_lt, take-append-drop, ◌≡◌, ℕ, suc, ◌+◌, ◌<◌, ◌≤◌, ◌^◌, not, ◌&&◌, T, is_some, List, ◌∷◌, length, take, drop, set, get_or, remove, sym, subst, arith, length-append, length-take, length-drop, rules}
use Rattle.std.specs.Prelude.{◌==◌, false}
use Rattle.std.proofs.lemmas.Float.{T_from_true}
use Rattle.std.proofs.lemmas.List.{length-set, drop-drop}
use Rattle.std.specs.List.{list_all, All}
use Rattle.std.proofs.lemmas.List.Elements.{All-append, All-cons, All-take, All-drop}
use Rattle.values.specs.Shape.{key_of}
use Rattle.values.specs.declared.row.Row.{Row}
use Rattle.values.specs.declared.row.Key.{Key}
use Rattle.values.specs.declared.value.Value.{Value}
use Rattle.model.specs.declared.entry.Entry.{Entry}
use Rattle.model.specs.declared.entry.Change.TheVariants.{Ins, Del, Mod}
use Rattle.model.specs.Entries.{entry_at, is_delete, entry_cmp, are_ordered, IsLawful}
use Rattle.model.specs.Edits.{change_with_cell, put_ins, put_del, put_mod, take_ins, set_ins}
use Rattle.delta.specs.Tree.{Tree}
use Rattle.delta.specs.Search.{insert_cmp, base_cmp, modify_cmp, past_cmp, stands_before, IsSplit}
use Rattle.delta.specs.Lookups.{has_delete, inserted_row, is_insert_at}
use Rattle.delta.specs.Changes.{modify_count}
use Rattle.delta.proofs.SearchLemmas.{is_true}
use Rattle.delta.proofs.ChangesLemmas.{all_drop, not_inserted, not_deleted, insert_cmp-same, base_cmp-same, modify_cmp-same, base-le-past, put_ins-split, put_del-split, put_mod-split, HasInsert, nothing}
use Rattle.delta.proofs.OrderLemmas.{ordered_right, ordered-with_run, ordered-remove, ordered-changed, all_stand_after, insert_before, delete_before, modify_before}
use Rattle.delta.proofs.Words.{with_run}
use Rattle.std.proofs.lemmas.Grind.{common_steps}

module _ (key_cols : ℕ) where
  abbrev IsPlaced : List Entry → Type 0
  IsPlaced es = All (λ e. e.sid < 2 ^ 32) es

  placed-with_run : (es : List Entry) (n m : ℕ) (e : Entry) → e.sid < 2 ^ 32 → IsPlaced es → IsPlaced (with_run es n m e)
  placed-with_run es n m e lt h =
      All-append (λ x. x.sid < 2 ^ 32) (take n es) (e ∷ drop m es) (All-take (λ x. x.sid < 2 ^ 32) n es h)
      (All-cons (λ x. x.sid < 2 ^ 32) e (drop m es) lt (All-drop (λ x. x.sid < 2 ^ 32) m es h))

  -- a list that a run with an entry gives
  lawful_run : (es new : List Entry) (n m : ℕ) (e : Entry) → new ≡ with_run es n m e → n ≤ m → IsLawful key_cols es
      → e.sid < 2 ^ 32 → length new ≤ 2 ^ 40 → T (are_ordered key_cols (with_run es n m e)) → IsLawful key_cols new
  lawful_run es new n m e is le h lt room ordered = grind (arith, common_steps, is_true, placed-with_run)

  ordered_drop : (es : List Entry) (n : ℕ) → T (are_ordered key_cols es) → T (are_ordered key_cols (drop n es))
  ordered_drop es n h =
      ordered_right key_cols (take n es) (drop n es) (subst (λ ys. T (are_ordered key_cols ys)) (sym (take-append-drop n es)) h)

  pub IsLawful-put_ins : (sid : ℕ) (row : Row) (es : List Entry) (n : ℕ) → IsLawful key_cols es
      → IsSplit (stands_before (insert_cmp key_cols (key_of key_cols row)) sid) es n
      → is_some (inserted_row key_cols sid (key_of key_cols row) es) ≡ false → sid < 2 ^ 32
      → length (put_ins key_cols sid row es) ≤ 2 ^ 40 → IsLawful key_cols (put_ins key_cols sid row es)
  IsLawful-put_ins sid row es n h split free lt room =
      let e = entry_at sid (Ins row) in
      let key = key_of key_cols row in
      let le : n ≤ n = omega arith in
      let others = all_drop (λ z. not (is_insert_at key_cols sid key z)) n es (not_inserted key_cols sid key es free) in
      lawful_run es (put_ins key_cols sid row es) n n e (put_ins-split key_cols sid row es n split free) le h lt room
      (ordered-with_run key_cols es n n e le (T_from_true _ h.ordered)
      (all_stand_after key_cols sid (Ins row) (insert_cmp key_cols key) (insert_cmp-same key_cols sid row) (take n es) split.before)
      (insert_before key_cols sid row (drop n es) split.after others))

  pub IsLawful-put_del : (sid : ℕ) (key : Key) (es : List Entry) (n m : ℕ) → IsLawful key_cols es
      → IsSplit (stands_before base_cmp sid) es n → IsSplit (stands_before past_cmp sid) es m → has_delete sid es ≡ false
      → sid < 2 ^ 32 → length (put_del key_cols sid key es) ≤ 2 ^ 40 → IsLawful key_cols (put_del key_cols sid key es)
  IsLawful-put_del sid key es n m h split past free lt room =
      let e = entry_at sid (Del key) in
      let le = base-le-past key_cols sid es n m split past in
      lawful_run es (put_del key_cols sid key es) n m e (put_del-split key_cols sid key es n m split past free) le h lt room
      (ordered-with_run key_cols es n m e le (T_from_true _ h.ordered)
      (all_stand_after key_cols sid (Del key) base_cmp (base_cmp-same key_cols sid key) (take n es) split.before)
      (delete_before key_cols sid key (drop m es) past.after))

  run_le : (n k : ℕ) → n ≤ n + k
  run_le n k = omega arith

  pub IsLawful-put_mod : (sid col : ℕ) (value : Value) (es : List Entry) (n : ℕ) → IsLawful key_cols es
      → IsSplit (stands_before (modify_cmp col) sid) es n → has_delete sid es ≡ false → sid < 2 ^ 32
      → length (put_mod key_cols sid col value es) ≤ 2 ^ 40 → IsLawful key_cols (put_mod key_cols sid col value es)
  IsLawful-put_mod sid col value es n h split free lt room =
      let e = entry_at sid (Mod col value) in
      let k = modify_count sid col (drop n es) in
      let le = run_le n k in
      let no_delete = all_drop (λ x. not ((x.sid == sid) && is_delete x.change)) n es (not_deleted key_cols sid es free) in
      let after = modify_before key_cols sid col value (drop n es) (ordered_drop es n (T_from_true _ h.ordered)) split.after no_delete in
      lawful_run es (put_mod key_cols sid col value es) n (n + k) e (put_mod-split key_cols sid col value es n split free) le h lt room
      (ordered-with_run key_cols es n (n + k) e le (T_from_true _ h.ordered)
      (all_stand_after key_cols sid (Mod col value) (modify_cmp col) (modify_cmp-same key_cols sid col value) (take n es) split.before)
      (subst (λ ys. T (list_all (λ y. is_lt (entry_cmp key_cols e y)) ys)) (drop-drop k n es) after))

  pub IsLawful-remove : (es : List Entry) (n : ℕ) → IsLawful key_cols es → n < length es → IsLawful key_cols (remove es n)
  IsLawful-remove es n h short =
      let count : length (remove es n) ≤ 2 ^ 40 =
      omega (arith, length-append (take n es) (drop (suc n) es), length-take n es, length-drop (suc n) es, h.counted) in
      record {
        ordered = is_true _ (ordered-remove key_cols es n (T_from_true _ h.ordered));
        placed =
            All-append (λ x. x.sid < 2 ^ 32) (take n es) (drop (suc n) es) (All-take (λ x. x.sid < 2 ^ 32) n es h.placed)
            (All-drop (λ x. x.sid < 2 ^ 32) (suc n) es h.placed);
        counted = count;
      }

  pub IsLawful-take_ins : (sid : ℕ) (key : Key) (es : List Entry) (n : ℕ) → IsLawful key_cols es → HasInsert key_cols sid key es n
      → IsLawful key_cols (take_ins key_cols sid key es)
  IsLawful-take_ins sid key es n h found = subst (IsLawful key_cols) (sym found.taken) (IsLawful-remove es n h found.short)

  pub IsLawful-set : (col : ℕ) (value : Value) (es : List Entry) (n : ℕ) → IsLawful key_cols es → n < length es → key_cols ≤ col
      → IsLawful key_cols
      (set es n (entry_at (get_or es n nothing).sid (change_with_cell col value (get_or es n nothing).change)))
  IsLawful-set col value es n h short outside = grind (arith, common_steps, nothing, length-set, is_true, ordered-changed)

  pub IsLawful-set_ins : (sid : ℕ) (key : Key) (col : ℕ) (value : Value) (es : List Entry) (n : ℕ) → IsLawful key_cols es
      → HasInsert key_cols sid key es n → key_cols ≤ col → IsLawful key_cols (set_ins key_cols sid key col value es)
  IsLawful-set_ins sid key col value es n h found outside =
      subst (IsLawful key_cols) (sym (found.with_cell col value)) (IsLawful-set col value es n h found.short outside)

-- a tree whose list of entries was changed shows the changed list, which is lawful
pub record IsEdited (k : ℕ) (new : List Entry) (t : Tree) (xs : List Entry) : Type 0 where
  pub shows : ◌≡◌ {A = Tree} (record { key_cols = k; entries = new }) (record { key_cols = t.key_cols; entries = xs })
  pub lawful : IsLawful k new

pub edited : (k : ℕ) (es new xs : List Entry) (t : Tree) → ◌≡◌ {A = Tree} (record { key_cols = k; entries = es }) t → new ≡ xs
    → IsLawful t.key_cols xs → IsEdited k new t xs
edited k es new xs t view same lawful = search rules
