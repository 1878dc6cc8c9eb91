-- Where the row of a key stands in the image of a tree.
use Rattle.std.proofs.Common.{◌≡◌, ℕ, ◌+◌, ◌-◌, Bool, true, false, cond, not, T, Option, Some, None, is_some, List, [], ◌∷◌, rules}
use Rattle.std.proofs.Common.{◌++◌, length, filter, take, drop, get_or, Ordering, Less, Equal, Greater, is_lt, is_eq, refl, sym}
use Rattle.std.proofs.Common.{ap, ◌∙◌, subst, arith}
use Rattle.std.specs.Prelude.{◌==◌, nat_lt, nat_le, IsTrue}
use Rattle.std.specs.Bool.{passes}
use Rattle.std.specs.Option.{IsSomeAnd}
use Rattle.std.specs.List.{list_all}
use Rattle.std.proofs.lemmas.Bool.{eqb-true}
use Rattle.std.proofs.lemmas.Bool.Decides.{nat_tests}
use Rattle.std.proofs.lemmas.Option.{slice_get-get_or}
use Rattle.values.specs.Orders.{key_cmp, key_cmp-IsAntisymmetric}
use Rattle.values.specs.Shape.{Columns, key_of}
use Rattle.values.specs.declared.row.Row.{Row}
use Rattle.values.specs.declared.row.Key.{Key}
use Rattle.model.specs.declared.entry.Entry.{Entry}
use Rattle.model.specs.declared.entry.Change.{Change}
use Rattle.model.specs.declared.entry.Change.TheVariants.{Ins, Del, Mod}
use Rattle.model.specs.declared.effect.Effect.{Effect}
use Rattle.model.specs.declared.effect.Effect.TheVariants as effect
use Rattle.model.specs.Maps.{find}
use Rattle.model.specs.Table.{Table, row_at, rank}
use Rattle.model.specs.Effects.{Effects, AreOver, are_keyed_effects, row_after, table_with}
use Rattle.model.specs.Entries.{entry_at, is_insert, canonical_entries, are_ordered}
use Rattle.model.specs.Edits.{is_insert_of}
use Rattle.model.specs.Places.{insert_count, delete_count, rid_of_insert, rid_of_base}
use Rattle.model.specs.Rebasing.{inserts_before, deletes_before, rebased_entry}
use Rattle.model.proofs.CallerLemmas.{first, second, changed_by, holds_at, row_at-table_with, adds_none, moved_one, spread}
use Rattle.model.proofs.CallerLemmas.{ordered, canonical_entries-at_key}
use Rattle.delta.specs.declared.places.Place.{Place}
use Rattle.delta.specs.declared.places.Place.TheVariants.{Inserted, Base}
use Rattle.delta.specs.Search.{insert_cmp, stands_before, IsSplit}
use Rattle.delta.specs.Positions.{IsAtRid}
use Rattle.delta.specs.Laws.{row_inserted, deletes_row}
use Rattle.delta.proofs.CallerLemmas.{nothing, has_insert, HasInsert, insert_count-cons, delete_count-cons, insert_worth}
use Rattle.delta.proofs.CallerLemmas.{delete_worth, finds_effect, keyed_effects, sorted_effects, sorted_table, fitting_effects, low_all, high_all}
use Rattle.delta.proofs.CallerLemmas.{rank_is}
use Rattle.std.proofs.lemmas.Grind.{common_steps}

-- ---- a list split in two

pub take_first : (xs ys : List Entry) → take (length xs) (xs ++ ys) ≡ xs
take_first [] ys = refl
take_first (x ∷ xs) ys = ap (λ zs. x ∷ zs) (take_first xs ys)

pub drop_first : (xs ys : List Entry) → drop (length xs) (xs ++ ys) ≡ ys
drop_first [] ys = refl
drop_first (x ∷ xs) ys = drop_first xs ys

split_first : (p : Entry → Bool) (xs ys : List Entry) → T (list_all p xs) → T (list_all (λ e. not (p e)) ys)
    → IsSplit p (xs ++ ys) (length xs)
split_first p xs ys h g = grind (arith, common_steps)

-- ---- counts of entries up to a SID

pub cond_length : (b : Bool) (e : Entry) (es : List Entry) → length (cond b (e ∷ es) es) ≡ cond b 1 0 + length es
cond_length true e es = omega arith
cond_length false e es = omega arith

pub inserts_cond : (b : Bool) (e : Entry) (es : List Entry)
    → insert_count (cond b (e ∷ es) es) ≡ cond b (insert_worth e.change) 0 + insert_count es
inserts_cond true e es = insert_count-cons e es
inserts_cond false e es = omega arith

pub deletes_cond : (b : Bool) (e : Entry) (es : List Entry)
    → delete_count (cond b (e ∷ es) es) ≡ cond b (delete_worth e.change) 0 + delete_count es
deletes_cond true e es = delete_count-cons e es
deletes_cond false e es = omega arith

module _ (key_cols sid : ℕ) (key : Key) where
  abbrev ghost_there : Entry
  ghost_there = entry_at sid (Del key)

  one_insert : (c : Change) (n : ℕ) → cond (inserts_before key_cols ghost_there (entry_at n c)) 1 0 ≡ cond (nat_le n sid) (insert_worth c) 0
  one_insert (Ins row) n = grind (arith, nat_tests)
  one_insert (Del gone) n = search rules
  one_insert (Mod col value) n = none (nat_le n sid)
    where
      none : (b : Bool) → ◌≡◌ {A = ℕ} 0 (cond b 0 0)
      none true = refl
      none false = refl

  one_delete : (c : Change) (n : ℕ) → cond (deletes_before key_cols ghost_there (entry_at n c)) 1 0 ≡ cond (nat_lt n sid) (delete_worth c) 0
  one_delete (Ins row) n = search rules
  one_delete (Del gone) n = refl
  one_delete (Mod col value) n = search rules

  inserts_to : (es : List Entry)
      → length (filter (inserts_before key_cols ghost_there) es) ≡ insert_count (filter (λ e. nat_le e.sid sid) es)
  inserts_to [] = refl
  inserts_to (e ∷ es) = grind (arith, common_steps, inserts_to es, cond_length, inserts_cond, one_insert)

  deletes_below : (es : List Entry)
      → length (filter (deletes_before key_cols ghost_there) es) ≡ delete_count (filter (λ e. nat_lt e.sid sid) es)
  deletes_below [] = refl
  deletes_below (e ∷ es) = grind (arith, common_steps, deletes_below es, cond_length, deletes_cond, one_delete)

  -- the position of a base row, as that of an entry made consecutive
  rid_of_base-rebased : (es : List Entry) → rid_of_base es sid ≡ (rebased_entry key_cols es ghost_there).sid
  rid_of_base-rebased es = λ i. (sid + sym (inserts_to es) i) - sym (deletes_below es) i

-- ---- the row of a key

-- what inserts no row and deletes none
keeps_row : (f : Option Effect) (old : Option Row) → T (is_some (changed_by row_after f old)) → is_some (row_inserted f) ≡ false
    → (is_some old ≡ true) × (deletes_row f ≡ false) × T (holds_at adds_none f)
keeps_row None None h n = absurd h
keeps_row None (Some r) h n = (refl, refl, tt)
keeps_row (Some (effect.Ins row)) old h n = cc
keeps_row (Some effect.Del) old h n = absurd h
keeps_row (Some (effect.Mod cells)) None h n = absurd h
keeps_row (Some (effect.Mod cells)) (Some r) h n = (refl, refl, tt)
keeps_row (Some (effect.Rep row)) old h n = cc

module _ (schema : Columns) (t : Table) (x : Effects) (h : AreOver schema t x) (key : Key) where
  abbrev pub image : Table
  image = table_with t x

  abbrev pub es : List Entry
  es = canonical_entries t x

  abbrev pub sid : ℕ
  sid = rank key t

  abbrev before : Effects
  before = filter (λ e. is_lt (key_cmp e.0 key)) x

  abbrev after : Effects
  after = filter (λ e. not (is_lt (key_cmp e.0 key))) x

  pub in_order : T (are_ordered schema.key_cols es)
  in_order = passes (are_ordered schema.key_cols es) (ordered schema t x h).ordered

  -- the entries split at the key
  abbrev pub key_place : ℕ
  key_place = length (canonical_entries t before)

  pub key_split : IsSplit (stands_before (insert_cmp schema.key_cols key) sid) es key_place
  key_split =
      let p = stands_before (insert_cmp schema.key_cols key) sid in
      subst (λ zs. IsSplit p zs key_place) (sym (canonical_entries-at_key schema t x key h.effects_are))
      (split_first p (canonical_entries t before) (canonical_entries t after)
      (low_all key t schema.key_cols x (keyed_effects schema t x h key) (fitting_effects schema t x h key))
      (high_all key t schema.key_cols x (keyed_effects schema t x h key)))

  -- what an insert of the key is
  abbrev pub IsInsertOf : Change → Type 0
  IsInsertOf (Ins row) = key_of schema.key_cols row ≡ key
  IsInsertOf (Del gone) = ⊥
  IsInsertOf (Mod col value) = ⊥

  -- where the row of the key comes from
  abbrev pub IsRowPlace : Place → Type 0
  IsRowPlace (Inserted n) = HasInsert schema.key_cols sid key es n × (is_some (row_inserted (find key_cmp key x)) ≡ true)
  IsRowPlace (Base s) = (s ≡ sid) × (is_some (row_inserted (find key_cmp key x)) ≡ false)

  insert_of : (c : Change) → T (is_insert_of schema.key_cols key c) → IsInsertOf c
  insert_of (Ins row) g = sym (key_cmp-IsAntisymmetric key (key_of schema.key_cols row) (equal _ g))
    where
      equal : (r : Ordering) → T (is_eq r) → r ≡ Equal
      equal Less p = absurd p
      equal Equal p = refl
      equal Greater p = absurd p
  insert_of (Del gone) g = absurd g
  insert_of (Mod col value) g = absurd g

  inserts : (c : Change) → IsInsertOf c → IsTrue (is_insert c)
  inserts (Ins row) g = refl
  inserts (Del gone) g = absurd g
  inserts (Mod col value) g = absurd g

  inserted_place : (rid : ℕ) → rid ≡ rank key image → is_some (row_inserted (find key_cmp key x)) ≡ true
      → IsAtRid es rid (Inserted key_place) × IsRowPlace (Inserted key_place)
  inserted_place rid rid_is some =
      let found = finds_effect schema t x key h in
      let hi : HasInsert schema.key_cols sid key es key_place = has_insert schema.key_cols sid key es key_place in_order key_split
      (ap is_some found.insert ∙ some) in
      let y = get_or es key_place nothing in
      let there = slice_get-get_or es key_place nothing hi.short in
      let same : y.sid ≡ sid = eqb-true y.sid sid
      (true_of (y.sid == sid) (first (y.sid == sid) (is_insert_of schema.key_cols key y.change) hi.there)) in
      let insert = insert_of y.change (second (y.sid == sid) (is_insert_of schema.key_cols key y.change) hi.there) in
      let at : rid_of_insert (take key_place es) y.sid ≡ rid = ap (rid_of_insert (take key_place es)) same
      ∙ rank_is schema t x h key key_place key_split ∙ sym rid_is in (
        subst (λ (o : Option Entry). IsSomeAnd o
            (λ e. IsTrue (is_insert e.change) × (rid_of_insert (take key_place es) e.sid ≡ rid))) (sym there)
            (inserts y.change insert, at),
        (hi, some),
      )
    where
      true_of : (b : Bool) → T b → b ≡ true
      true_of true g = refl
      true_of false g = absurd g

  base_row : (rid : ℕ) → rid ≡ rank key image → T (is_some (row_at image key)) → is_some (row_inserted (find key_cmp key x)) ≡ false
      → IsAtRid es rid (Base sid) × IsRowPlace (Base sid)
  base_row rid rid_is there none =
      let kept = keeps_row (find key_cmp key x) (row_at t key)
      (subst (λ (o : Option Row). T (is_some o)) (row_at-table_with t x key (sorted_effects schema t x h key)) there) none in
      let found = finds_effect schema t x key h in
      let here = passes (is_some (row_at t key)) kept.0 in
      let apart = spread adds_none key x (sorted_effects schema t x h key) kept.2 in
      let keyed = passes (are_keyed_effects schema.key_cols x) h.effects_are.keyed in
      let moved = moved_one schema.key_cols t key (Del key) here x (sorted_table schema t x h key) keyed (fitting_effects schema t x h key) apart in
      let at : rid_of_base es sid ≡ rid = rid_of_base-rebased schema.key_cols sid key es ∙ ap (λ (e : Entry). e.sid) moved ∙ sym rid_is in
      ((found.delete kept.0 ∙ kept.1, at), (refl, none))

  -- the one place at the key's position is that of its row
  pub row_place : (rid : ℕ) → rid ≡ rank key image → T (is_some (row_at image key)) → (P : Place)
      → ((place : Place) → IsAtRid es rid place → place ≡ P) → IsRowPlace P
  row_place rid rid_is there P only =
      elim (is_some (row_inserted (find key_cmp key x))) as (λ b. is_some (row_inserted (find key_cmp key x)) ≡ b → IsRowPlace P) [
        | true ↦ λ q. let found = inserted_place rid rid_is q in subst IsRowPlace (only (Inserted key_place) found.0) found.1
        | false ↦ λ q. let found = base_row rid rid_is there q in subst IsRowPlace (only (Base sid) found.0) found.1
      ] refl
