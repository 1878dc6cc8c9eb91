-- An entry put in, whatever its change.
use Rattle.std.proofs.Common.{◌≡◌, ℕ, ◌<◌, ◌≤◌, ◌^◌, false, not, T, List, [], ◌∷◌, length, take, drop, get_or, rules}
use Rattle.std.proofs.Common.{Ordering, Greater, refl, subst, arith, drop-cons}
use Rattle.std.specs.List.{list_all}
use Rattle.std.proofs.lemmas.List.{get_or-take, length-take-le}
use Rattle.values.specs.declared.row.Row.{Row}
use Rattle.values.specs.declared.row.Key.{Key}
use Rattle.values.specs.declared.value.Value.{Value}
use Rattle.model.specs.declared.entry.Entry.{Entry}
use Rattle.model.specs.declared.entry.Change.{Change}
use Rattle.model.specs.declared.entry.Change.TheVariants.{Ins, Del, Mod}
use Rattle.model.specs.Entries.{entry_at, are_ordered, IsLawful}
use Rattle.model.proofs.CallerLemmas.{first}
use Rattle.delta.specs.Search.{insert_cmp, base_cmp, modify_cmp, past_cmp, stands_before, IsSplit}
use Rattle.delta.specs.Changes.{modify_count, entries_with, MayBePut, IsRun}
use Rattle.delta.proofs.ChangesLemmas.{all_from, base-le-past, base_is_past, put_ins-split, put_mod-split, put_del-split}
use Rattle.delta.proofs.CountedLemmas.{split_from_place}
use Rattle.delta.proofs.SearchLemmas.{is_true, at_index, parted, past_cmp-closed}
use Rattle.delta.proofs.LawfulLemmas.{IsLawful-put_ins, IsLawful-put_del, IsLawful-put_mod}
use Rattle.delta.proofs.Words.{with_run}
use Rattle.std.proofs.lemmas.Grind.{common_steps}

module _ (key_cols sid : ℕ) where
  -- an entry past the inserts at the SID and at another one stands past the SID
  is_past : (e : Entry) → T (not (stands_before base_cmp sid e)) → (e.sid ≡ sid → ⊥) → stands_before past_cmp sid e ≡ false
  is_past e h other = search rules

  -- where nothing becomes of the base row, the entries up to its SID end where that would stand
  pub past-base : (es : List Entry) (n : ℕ) → T (are_ordered key_cols es) → IsSplit (stands_before base_cmp sid) es n
      → ((d : Entry) → n < length es → (get_or es n d).sid ≡ sid → ⊥) → IsSplit (stands_before past_cmp sid) es n
  past-base es n ordered h none =
      let within = h.within in
      split_from_place (stands_before past_cmp sid) es n (parted key_cols past_cmp (past_cmp-closed key_cols) sid es ordered)
      (record {
        within = within;
        low = λ m d is.
            let lt : m < n = omega arith in
            let short : m < length (take n es) = omega (arith, length-take-le n es within) in
            let before = subst (λ (e : Entry). T (stands_before base_cmp sid e)) (get_or-take n es m d lt)
            (at_index (stands_before base_cmp sid) (take n es) h.before m d short) in
            is_true (stands_before past_cmp sid (get_or es m d)) (base_is_past key_cols sid (get_or es m d) before);
        high = λ d lt.
            let after = subst (λ (ys : List Entry). T (list_all (λ e. not (stands_before base_cmp sid e)) ys))
            (drop-cons es n d lt) h.after in
            is_past (get_or es n d) (first (not (stands_before base_cmp sid (get_or es n d))) _ after) (none d lt);
      })

  -- an entry past the SID stands past all at it
  not_past-not : (cmp : Change → Ordering) (e : Entry) → T (not (stands_before past_cmp sid e)) → T (not (stands_before cmp sid e))
  not_past-not cmp e h = search rules

  -- one before an insert of a key stands before all that stands past the inserts
  pub by_insert : (cmp : Change → Ordering) → ((row : Row) → cmp (Ins row) ≡ Greater) → (key : Key) (e : Entry)
      → T (stands_before (insert_cmp key_cols key) sid e) → T (stands_before cmp sid e)
  by_insert cmp past key e h = search rules

  -- at the place of a key from which on no entry stands at the SID stands all that stands past the inserts
  pub past-inserts : (cmp : Change → Ordering) → ((row : Row) → cmp (Ins row) ≡ Greater) → (key : Key) (es : List Entry) (n : ℕ)
      → IsSplit (stands_before (insert_cmp key_cols key) sid) es n → IsSplit (stands_before past_cmp sid) es n
      → IsSplit (stands_before cmp sid) es n
  past-inserts cmp past key es n split end = grind (arith, common_steps, all_from, by_insert, not_past-not)

  none_modified : (col : ℕ) (es : List Entry) → T (list_all (λ e. not (stands_before past_cmp sid e)) es) → modify_count sid col es ≡ 0
  none_modified col [] h = refl
  none_modified col (e ∷ es) h = search rules

  -- so a delete and a modify of the row stand there, and replace nothing
  pub run-del : (gone key : Key) (es : List Entry) (n : ℕ) → IsSplit (stands_before (insert_cmp key_cols key) sid) es n
      → IsSplit (stands_before past_cmp sid) es n → IsRun key_cols sid (Del gone) es n n
  run-del gone key es n split end = (past-inserts base_cmp (λ row. refl) key es n split end, end)

  -- a modify of the row stands there, and replaces nothing
  pub run-mod : (col : ℕ) (value : Value) (key : Key) (es : List Entry) (n : ℕ)
      → IsSplit (stands_before (insert_cmp key_cols key) sid) es n → IsSplit (stands_before past_cmp sid) es n
      → IsRun key_cols sid (Mod col value) es n n
  run-mod col value key es n split end =
      let none = none_modified col (drop n es) end.after in
      (past-inserts (modify_cmp col) (λ row. refl) key es n split end, omega (arith, none))

  -- what is replaced is a part of the list
  pub run_within : (change : Change) (es : List Entry) (n m : ℕ) → IsRun key_cols sid change es n m → (n ≤ m) × (m ≤ length es)
  run_within (Ins row) es n m run = (omega (arith, run.1), omega (arith, run.1, run.0.within))
  run_within (Del key) es n m run = (base-le-past key_cols sid es n m run.0 run.1, run.1.within)
  run_within (Mod col value) es n m run = grind (arith, common_steps)

  pub entries_with-run : (change : Change) (es : List Entry) (n m : ℕ) → IsRun key_cols sid change es n m → MayBePut key_cols sid change es
      → entries_with key_cols sid change es ≡ with_run es n m (entry_at sid change)
  entries_with-run (Ins row) es n m run free = grind (arith, common_steps, put_ins-split, with_run)
  entries_with-run (Del key) es n m run free = put_del-split key_cols sid key es n m run.0 run.1 free
  entries_with-run (Mod col value) es n m run free = grind (arith, common_steps, put_mod-split, with_run)

  pub IsLawful-entries_with : (change : Change) (es : List Entry) (n m : ℕ) → IsLawful key_cols es → IsRun key_cols sid change es n m
      → MayBePut key_cols sid change es → sid < 2 ^ 32 → length (entries_with key_cols sid change es) ≤ 2 ^ 40
      → IsLawful key_cols (entries_with key_cols sid change es)
  IsLawful-entries_with (Ins row) es n m h run free lt room = IsLawful-put_ins key_cols sid row es n h run.0 free lt room
  IsLawful-entries_with (Del key) es n m h run free lt room = IsLawful-put_del key_cols sid key es n m h run.0 run.1 free lt room
  IsLawful-entries_with (Mod col value) es n m h run free lt room = IsLawful-put_mod key_cols sid col value es n h run.0 free lt room
