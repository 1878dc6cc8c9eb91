-- What stands at the place of a key, and before what is looked for at a SID.
use Rattle.std.proofs.Common.{◌≡◌, ℕ, zero, suc, ◌<◌, ◌≤◌, ◌^◌, Bool, true, false, cond, not, T, Option, Some, None, is_some, rules}
use Rattle.std.proofs.Common.{List, [], ◌∷◌, ◌++◌, map, take, drop, nat_cmp, Less, Equal, Greater, is_lt, is_eq, is_gt, refl, sym}
use Rattle.std.proofs.Common.{ap, ◌∙◌, subst, arith, take-append-drop}
use Rattle.std.specs.Prelude.{◌==◌, slice_get}
use Rattle.std.specs.Ordering.{ordering_then}
use Rattle.std.specs.FinMap.Entries.{below_all}
use Rattle.std.specs.List.{list_all}
use Rattle.std.proofs.lemmas.Bool.{eqb-true}
use Rattle.std.proofs.lemmas.Bool.Decides.{nat_tests}
use Rattle.std.proofs.lemmas.List.{append_cancel_left}
use Rattle.std.proofs.lemmas.List.Folds.{list_all-append}
use Rattle.std.proofs.lemmas.Option.{slice_get_within, get_or_from_slice_get}
use Rattle.values.specs.Orders.{key_cmp, key_cmp_total, key_cmp-IsAntisymmetric}
use Rattle.values.specs.Shape.{Columns}
use Rattle.values.specs.declared.row.Key.{Key}
use Rattle.model.specs.declared.entry.Entry.{Entry}
use Rattle.model.specs.declared.entry.Change.TheVariants.{Ins, Del, Mod}
use Rattle.model.specs.declared.effect.Effect.{Effect}
use Rattle.model.specs.declared.effect.Effect.TheVariants as effect
use Rattle.model.specs.Maps.{find, is_sorted}
use Rattle.model.specs.Table.{Table, row_at, rank}
use Rattle.model.specs.Effects.{Cells, Effects, AreOver, is_keyed_effect}
use Rattle.model.specs.Entries.{IsLawful, entry_at, entries_of, canonical_entries}
use Rattle.model.proofs.CallerLemmas.{both, first, second, find_below, find_past, below_less, turn_less, turn_greater, rank-lt}
use Rattle.model.proofs.CallerLemmas.{canonical_entries-at_key}
use Rattle.delta.specs.Search.{insert_cmp, past_cmp, stands_before, IsSplit}
use Rattle.counted.specs.Changes.{change_of}
use Rattle.model.specs.Places.{delete_count}
use Rattle.model.specs.Entries.{are_ordered}
use Rattle.delta.specs.BySid.{made_of_base, base_change, stand_of}
use Rattle.delta.specs.declared.by_sid.Sought.{Sought}
use Rattle.delta.specs.declared.by_sid.Sought.TheVariants as sought
use Rattle.delta.proofs.PositionsLemmas.{deletes-before-insert, deletes-before-base, deletes-before-change}
use Rattle.delta.specs.Laws.{row_inserted}
use Rattle.delta.specs.declared.by_sid.BaseChange.TheVariants.{Kept, Modified, Deleted}
use Rattle.delta.proofs.ChangesLemmas.{all_from}
use Rattle.delta.proofs.PutLemmas.{by_insert}
use Rattle.delta.proofs.KeyPlaceLemmas.{high, keyed_effects, sorted_effects, before_key}
use Rattle.delta.proofs.Words.{effect_on_base}

-- no more deletes stand before what is looked for than base rows
pub deletes-before-sought : (key_cols sid : ℕ) (sought : Sought) (es : List Entry) (n : ℕ) → T (are_ordered key_cols es)
    → IsSplit (stands_before (stand_of key_cols sought) sid) es n → delete_count (take n es) ≤ sid
deletes-before-sought key_cols sid (sought.Insert key) es n ordered split = deletes-before-insert key_cols sid key.now es n ordered split
deletes-before-sought key_cols sid sought.Base es n ordered split = deletes-before-base key_cols sid es n ordered split
deletes-before-sought key_cols sid (sought.Change change) es n ordered split =
    deletes-before-change key_cols sid (change_of change) es n ordered split

-- a base row with modifies stands below 2^32, as its entries do
pub modified_below : (key_cols sid : ℕ) (es : List Entry) (n : ℕ) → IsLawful key_cols es → base_change sid (slice_get es n) ≡ Modified
    → sid < 2 ^ 32
modified_below key_cols sid es n h changed = by (slice_get es n) refl changed
  where
    by : (o : Option Entry) → slice_get es n ≡ o → base_change sid o ≡ Modified → sid < 2 ^ 32
    by None is e = cc
    by (Some x) is e = at (x.sid == sid) refl e
      where
        at : (b : Bool) → (x.sid == sid) ≡ b → cond b (made_of_base x.change) Kept ≡ Modified → sid < 2 ^ 32
        at true p e =
            let low : x.sid < 2 ^ 32 = subst (λ y. y.sid < 2 ^ 32) (get_or_from_slice_get es n x x is)
            (h.placed n x (slice_get_within es n x is)) in
            subst (λ n. n < 2 ^ 32) (eqb-true x.sid sid p) low
        at false p e = cc

-- the first entry, if there is one
abbrev first_of : List Entry → Option Entry
first_of [] = None
first_of (e ∷ es) = Some e

slice_get-first_of : (es : List Entry) (n : ℕ) → slice_get es n ≡ first_of (drop n es)
slice_get-first_of [] zero = refl
slice_get-first_of [] (suc n) = refl
slice_get-first_of (e ∷ es) zero = refl
slice_get-first_of (e ∷ es) (suc n) = slice_get-first_of es n

same_sid : (n m : ℕ) → n ≡ m → (n == m) ≡ true
same_sid n m e = grind (arith, nat_tests)

later_sid : (n m : ℕ) → m < n → (n == m) ≡ false
later_sid n m lt = grind (arith, nat_tests)

module _ (key_cols : ℕ) (t : Table) (key : Key) (there : T (is_some (row_at t key))) where
  -- the entries of the key's own effect, where it inserts no row, make of the base row what the effect does
  own_first : (k : Key) (f : Effect) (rest : List Entry) → rank k t ≡ rank key t → T (is_keyed_effect key_cols k f)
      → row_inserted (Some f) ≡ None → base_change (rank key t) (first_of (entries_of (rank k t) k f ++ rest)) ≡ effect_on_base (Some f)
  own_first k (effect.Ins row) rest same keyed none = cc
  own_first k effect.Del rest same keyed none = ap (λ b. cond b Deleted Kept) (same_sid (rank k t) (rank key t) same)
  own_first k (effect.Mod []) rest same keyed none = absurd keyed
  own_first k (effect.Mod (c ∷ cells)) rest same keyed none = ap (λ b. cond b Modified Kept) (same_sid (rank k t) (rank key t) same)
  own_first k (effect.Rep row) rest same keyed none = cc

  -- those of a greater key make nothing of it
  later_first : (k : Key) (f : Effect) (rest : List Entry) → rank key t < rank k t → T (is_keyed_effect key_cols k f)
      → base_change (rank key t) (first_of (entries_of (rank k t) k f ++ rest)) ≡ Kept
  later_first k (effect.Ins row) rest lt keyed = ap (λ b. cond b Kept Kept) (later_sid (rank k t) (rank key t) lt)
  later_first k effect.Del rest lt keyed = ap (λ b. cond b Deleted Kept) (later_sid (rank k t) (rank key t) lt)
  later_first k (effect.Mod []) rest lt keyed = absurd keyed
  later_first k (effect.Mod (c ∷ cells)) rest lt keyed = ap (λ b. cond b Modified Kept) (later_sid (rank k t) (rank key t) lt)
  later_first k (effect.Rep row) rest lt keyed = ap (λ b. cond b Kept Kept) (later_sid (rank k t) (rank key t) lt)

  -- the first entry from the key's place on
  high_first : (x : Effects) → T (is_sorted key_cmp x) → T (list_all (λ e. is_keyed_effect key_cols e.0 e.1) x)
      → row_inserted (find key_cmp key x) ≡ None
      → base_change (rank key t) (first_of (canonical_entries t (high key t x))) ≡ effect_on_base (find key_cmp key x)
  high_first [] sorted keyed none = refl
  high_first (e ∷ x) sorted keyed none =
      let after : T (below_all key_cmp e.0 x) = first (below_all key_cmp e.0 x) _ sorted in
      let kept = first (is_keyed_effect key_cols e.0 e.1) _ keyed in
      let above : is_lt (key_cmp e.0 key) ≡ false → canonical_entries t (high key t (e ∷ x)) ≡ entries_of (rank e.0 t) e.0
      e.1 ++ canonical_entries t (high key t x) =
      λ q. ap (λ b. canonical_entries t (cond (not b) (e ∷ high key t x) (high key t x))) q in
      elim (key_cmp key e.0) as (λ r. key_cmp key e.0 ≡ r → base_change (rank key t)
      (first_of (canonical_entries t (high key t (e ∷ x)))) ≡ effect_on_base (find key_cmp key (e ∷ x))) [
        | Less ↦ λ p.
            let absent : find key_cmp key (e ∷ x) ≡ None = ap (λ r. cond (is_eq r) (Some e.1) (find key_cmp key x)) p
            ∙ find_below key_cmp_total key x (below_less key_cmp_total key e.0 x p after) in
            ap (λ (es : List Entry). base_change (rank key t) (first_of es)) (above (ap is_lt (turn_less key_cmp_total key e.0 p)))
            ∙ later_first e.0 e.1 (canonical_entries t (high key t x)) (rank-lt key e.0 t p there) kept
            ∙ ap effect_on_base (sym absent)
        | Equal ↦ λ p.
            let same : key ≡ e.0 = key_cmp-IsAntisymmetric key e.0 p in
            let level : is_lt (key_cmp e.0 key) ≡ false = ap (λ (k : Key). is_lt (key_cmp k key)) (sym same)
            ∙ ap (λ (k : Key). is_lt (key_cmp key k)) same ∙ ap is_lt p in
            let here : find key_cmp key (e ∷ x) ≡ Some e.1 = ap (λ r. cond (is_eq r) (Some e.1) (find key_cmp key x)) p in
            ap (λ (es : List Entry). base_change (rank key t) (first_of es)) (above level)
            ∙ own_first e.0 e.1 (canonical_entries t (high key t x)) (ap (λ (k : Key). rank k t) (sym same)) kept
            (sym (ap row_inserted here) ∙ none)
            ∙ ap effect_on_base (sym here)
        | Greater ↦ λ p.
            let past = find_past key_cmp key e x p in
            ap (λ b. base_change (rank key t) (first_of (canonical_entries t (cond (not b) (e ∷ high key t x) (high key t x)))))
            (ap is_lt (turn_greater key_cmp_total key e.0 p))
            ∙ high_first x (second (below_all key_cmp e.0 x) _ sorted) (second (is_keyed_effect key_cols e.0 e.1) _ keyed)
            (sym (ap row_inserted past) ∙ none)
            ∙ ap effect_on_base (sym past)
      ] refl

-- the entries from an insert of the key on are those of the keys from it on
from_key : (schema : Columns) (t : Table) (x : Effects) (h : AreOver schema t x) (key : Key) (n : ℕ)
    → IsSplit (stands_before (insert_cmp schema.key_cols key) (rank key t)) (canonical_entries t x) n
    → drop n (canonical_entries t x) ≡ canonical_entries t (high key t x)
from_key schema t x h key n split =
    let es = canonical_entries t x in
    let before = before_key schema t x h key n split in
    let from : take n es ++ drop n es ≡ take n es ++ canonical_entries t (high key t x) =
    take-append-drop n es ∙ canonical_entries-at_key schema t x key h.effects_are
    ∙ ap (λ (low : List Entry). low ++ canonical_entries t (high key t x)) (sym before) in
    append_cancel_left (take n es) (drop n es) (canonical_entries t (high key t x)) from

-- what stands at the place of a key that the table has makes of its row what the key's effect does
pub base_change-effect : (schema : Columns) (t : Table) (x : Effects) (h : AreOver schema t x) (key : Key) (n : ℕ)
    → IsSplit (stands_before (insert_cmp schema.key_cols key) (rank key t)) (canonical_entries t x) n
    → T (is_some (row_at t key)) → row_inserted (find key_cmp key x) ≡ None
    → base_change (rank key t) (slice_get (canonical_entries t x) n) ≡ effect_on_base (find key_cmp key x)
base_change-effect schema t x h key n split there none =
    ap (base_change (rank key t)) (slice_get-first_of (canonical_entries t x) n ∙ ap first_of (from_key schema t x h key n split))
    ∙ high_first schema.key_cols t key there x (sorted_effects schema t x h key) (keyed_effects schema t x h key) none

-- ---- a row that the table has and no effect is on

past_lt : (n m : ℕ) → n < m → T (not (is_gt (ordering_then (nat_cmp n m) Greater)))
past_lt n m lt = search rules

module _ (t : Table) (key : Key) (there : T (is_some (row_at t key))) where
  -- an entry stands past the key's SID
  abbrev is_later : Entry → Bool
  is_later e = not (stands_before past_cmp (rank key t) e)

  later_cells : (k : Key) (cells : Cells) → rank key t < rank k t
      → T (list_all is_later (map (λ c. entry_at (rank k t) (Mod c.0 c.1)) cells))
  later_cells k [] lt = tt
  later_cells k (c ∷ cells) lt =
      both (is_later (entry_at (rank k t) (Mod c.0 c.1))) _ (past_lt (rank key t) (rank k t) lt) (later_cells k cells lt)

  later_effect : (k : Key) (f : Effect) → rank key t < rank k t → T (list_all is_later (entries_of (rank k t) k f))
  later_effect k (effect.Ins row) lt = both (is_later (entry_at (rank k t) (Ins row))) _ (past_lt (rank key t) (rank k t) lt) tt
  later_effect k effect.Del lt = both (is_later (entry_at (rank k t) (Del k))) _ (past_lt (rank key t) (rank k t) lt) tt
  later_effect k (effect.Mod cells) lt = later_cells k cells lt
  later_effect k (effect.Rep row) lt = search rules

  -- those of the keys from this one on do, where it has no effect itself
  high_later : (x : Effects) → find key_cmp key x ≡ None → T (list_all is_later (canonical_entries t (high key t x)))
  high_later [] none = tt
  high_later (e ∷ x) none =
      elim (key_cmp key e.0) as (λ r. key_cmp key e.0 ≡ r → T (list_all is_later (canonical_entries t (high key t (e ∷ x))))) [
        | Less ↦ λ p.
            let rest = high_later x (sym (ap (λ r. cond (is_eq r) (Some e.1) (find key_cmp key x)) p) ∙ none) in
            let here = later_effect e.0 e.1 (rank-lt key e.0 t p there) in
            let own = entries_of (rank e.0 t) e.0 e.1 in
            let above : canonical_entries t (high key t (e ∷ x)) ≡ own ++ canonical_entries t (high key t x) =
            ap (λ r. canonical_entries t (cond (not (is_lt r)) (e ∷ high key t x) (high key t x)))
            (turn_less key_cmp_total key e.0 p) in
            let parts = sym (list_all-append is_later own (canonical_entries t (high key t x))) in
            subst (λ (es : List Entry). T (list_all is_later es)) (sym above)
            (subst T parts (both (list_all is_later own) _ here rest))
        | Equal ↦ λ p.
            let some : Some e.1 ≡ None = sym (ap (λ r. cond (is_eq r) (Some e.1) (find key_cmp key x)) p) ∙ none in
            cc
        | Greater ↦ λ p.
            let rest = high_later x (sym (ap (λ r. cond (is_eq r) (Some e.1) (find key_cmp key x)) p) ∙ none) in
            let below : canonical_entries t (high key t (e ∷ x)) ≡ canonical_entries t (high key t x) =
            ap (λ r. canonical_entries t (cond (not (is_lt r)) (e ∷ high key t x) (high key t x)))
            (turn_greater key_cmp_total key e.0 p) in
            subst (λ (es : List Entry). T (list_all is_later es)) (sym below) rest
      ] refl

-- an effect that inserts no row, and makes nothing of the base row, is none
no_effect : (f : Option Effect) → row_inserted f ≡ None → effect_on_base f ≡ Kept → f ≡ None
no_effect None none kept = refl
no_effect (Some (effect.Ins row)) none kept = cc
no_effect (Some effect.Del) none kept = cc
no_effect (Some (effect.Mod cells)) none kept = cc
no_effect (Some (effect.Rep row)) none kept = cc

-- from the place of a key on no entry stands at its SID, where the table has the key, and what stands there makes nothing of
-- its row
pub past-kept : (schema : Columns) (t : Table) (x : Effects) (h : AreOver schema t x) (key : Key) (n : ℕ)
    → IsSplit (stands_before (insert_cmp schema.key_cols key) (rank key t)) (canonical_entries t x) n
    → T (is_some (row_at t key)) → row_inserted (find key_cmp key x) ≡ None
    → base_change (rank key t) (slice_get (canonical_entries t x) n) ≡ Kept
    → IsSplit (stands_before past_cmp (rank key t)) (canonical_entries t x) n
past-kept schema t x h key n split there none kept =
    let sid = rank key t in
    let es = canonical_entries t x in
    let absent = no_effect (find key_cmp key x) none (sym (base_change-effect schema t x h key n split there none) ∙ kept) in
    let rest = sym (from_key schema t x h key n split) in
    record {
      within = split.within;
      before =
          all_from (stands_before (insert_cmp schema.key_cols key) sid) (stands_before past_cmp sid)
          (by_insert schema.key_cols sid past_cmp (λ row. refl) key) (take n es) split.before;
      after = subst (λ (ys : List Entry). T (list_all (is_later t key there) ys)) rest (high_later t key there x absent);
    }
