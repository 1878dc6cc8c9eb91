-- One upper entry, folded into the tree of the effects so far.
use Rattle.std.proofs.Common.{◌≡◌, ℕ, ◌<◌, ◌≤◌, ◌^◌, true, false, cond, T, Option, Some, None, is_some, List, length, get_or, rules}
use Rattle.std.proofs.Common.{remove, set, refl, sym, ap, ◌∙◌, subst, arith}
use Rattle.std.specs.Prelude.{IsTrue, IsSome, IsSomeAnd, IsFalse, slice_get}
use Rattle.std.specs.Bool.{passes}
use Rattle.values.specs.Orders.{key_cmp}
use Rattle.values.specs.Shape.{Columns, key_of, cell_fits_schema}
use Rattle.values.specs.declared.row.Row.{Row}
use Rattle.values.specs.declared.row.Key.{Key}
use Rattle.values.specs.declared.value.Value.{Value}
use Rattle.model.specs.declared.entry.Entry.{Entry}
use Rattle.model.specs.declared.entry.Change.{Change}
use Rattle.model.specs.declared.entry.Change.TheVariants.{Ins, Del, Mod}
use Rattle.model.specs.declared.effect.Effect.{Effect}
use Rattle.model.specs.declared.effect.Effect.TheVariants as effect
use Rattle.model.specs.declared.write.Write.TheVariants.{Delete, Set}
use Rattle.model.specs.Maps.{find}
use Rattle.model.specs.Table.{row_at, rank, is_keyed_table}
use Rattle.model.specs.Effects.{are_keyed_effects, fits, all_fit, row_after, table_with}
use Rattle.std.proofs.lemmas.Option.{get_or_from_slice_get, slice_get-get_or}
use Rattle.model.specs.Entries.{entry_at, canonical_entries}
use Rattle.model.specs.Edits.{put_ins, put_del, put_mod, take_ins, set_ins, change_with_cell, edited_entries}
use Rattle.model.proofs.CallerLemmas.{first, changed_by, holds_at, rank-le-length, inserted, deleted, modified, fit_so_far, fits_here}
use Rattle.delta.specs.declared.places.Place.{Place}
use Rattle.delta.specs.declared.places.Place.TheVariants.{Inserted, Base}
use Rattle.delta.specs.Lookups.{has_delete, inserted_row, row_of}
use Rattle.delta.specs.Changes.{has_cell, entries_with, MayBePutAt}
use Rattle.delta.specs.Folds.{IsFold, IsOnlyFold}
use Rattle.delta.specs.Search.{insert_cmp, stands_before, IsSplit}
use Rattle.delta.specs.declared.folds.Fold.{Fold}
use Rattle.delta.specs.declared.folds.Fold.TheVariants.{Into, Put}
use Rattle.delta.specs.Positions.{IsAtRid, IsGapAt, deletes_ascend}
use Rattle.delta.specs.Laws.{row_inserted, MayEdit}
use Rattle.delta.specs.Tree.{Tree}
use Rattle.delta.proofs.CallerLemmas.{nothing, may_insert, may_delete, may_set, known, Known}
use Rattle.layers.specs.Propagation.{IsNext, effect_of_change, effects_with, next_tree}
use Rattle.layers.proofs.RowPlaceLemmas.{IsRowPlace, key_place, key_split, row_place}
use Rattle.layers.proofs.GapPlaceLemmas.{gap_place, deletes_ascend-canonical_entries}
use Rattle.std.proofs.lemmas.Grind.{common_steps}

-- the same step, of an entry whose change is told
pub with_change : (tree : Tree) (entry : Entry) (c : Change) → entry.change ≡ c → IsNext tree entry → IsNext tree (entry_at entry.sid c)
with_change tree entry c is w = subst (λ d. IsNext tree (entry_at entry.sid d)) is w

-- an edit by a write, by whether the row is inserted
deletes_by : (key_cols sid : ℕ) (key : Key) (old : Option Effect) (es : List Entry)
    → edited_entries key_cols sid (Delete key) old es ≡ cond (is_some (row_inserted old)) (take_ins key_cols sid key es)
    (put_del key_cols sid key es)
deletes_by key_cols sid key None es = refl
deletes_by key_cols sid key (Some (effect.Ins row)) es = refl
deletes_by key_cols sid key (Some effect.Del) es = refl
deletes_by key_cols sid key (Some (effect.Mod cells)) es = refl
deletes_by key_cols sid key (Some (effect.Rep row)) es = refl

sets_by : (key_cols sid : ℕ) (key : Key) (col : ℕ) (value : Value) (old : Option Effect) (es : List Entry)
    → edited_entries key_cols sid (Set key col value) old es ≡ cond (is_some (row_inserted old))
    (set_ins key_cols sid key col value es) (put_mod key_cols sid col value es)
sets_by key_cols sid key col value None es = refl
sets_by key_cols sid key col value (Some (effect.Ins row)) es = refl
sets_by key_cols sid key col value (Some effect.Del) es = refl
sets_by key_cols sid key col value (Some (effect.Mod cells)) es = refl
sets_by key_cols sid key col value (Some (effect.Rep row)) es = refl

-- what an edit by a write may need
may_delete_by : (key_cols sid : ℕ) (key : Key) (old : Option Effect) (es : List Entry) → MayEdit key_cols sid (Delete key) old es
    → (is_some (row_inserted old) ≡ true → IsSome (inserted_row key_cols sid key es)) × (is_some (row_inserted old) ≡ false
    → IsFalse (has_delete sid es))
may_delete_by key_cols sid key None es m = (λ e. cc, λ e. m)
may_delete_by key_cols sid key (Some (effect.Ins row)) es m = (λ e. m, λ e. cc)
may_delete_by key_cols sid key (Some effect.Del) es m = (λ e. cc, λ e. m)
may_delete_by key_cols sid key (Some (effect.Mod cells)) es m = (λ e. cc, λ e. m)
may_delete_by key_cols sid key (Some (effect.Rep row)) es m = (λ e. m, λ e. cc)

may_set_by : (key_cols sid : ℕ) (key : Key) (col : ℕ) (value : Value) (old : Option Effect) (es : List Entry)
    → MayEdit key_cols sid (Set key col value) old es
    → (is_some (row_inserted old) ≡ true
    → IsSomeAnd (inserted_row key_cols sid key es) (λ row. col < length row)) × (is_some (row_inserted old) ≡ true
    → key_cols ≤ col) × (is_some (row_inserted old) ≡ false → IsFalse (has_delete sid es))
may_set_by key_cols sid key col value None es m = (λ e. cc, λ e. cc, λ e. m)
may_set_by key_cols sid key col value (Some (effect.Ins row)) es m = (λ e. m.0, λ e. m.1, λ e. cc)
may_set_by key_cols sid key col value (Some effect.Del) es m = (λ e. cc, λ e. cc, λ e. m)
may_set_by key_cols sid key col value (Some (effect.Mod cells)) es m = (λ e. cc, λ e. cc, λ e. m)
may_set_by key_cols sid key col value (Some (effect.Rep row)) es m = (λ e. m.0, λ e. m.1, λ e. cc)

module _ (tree : Tree) (entry : Entry) (w : IsNext tree entry) where
  abbrev key_cols : ℕ
  key_cols = w.schema.key_cols

  abbrev es : List Entry
  es = canonical_entries w.t w.x

  abbrev sid : ℕ
  sid = rank w.key w.t

  -- the tree's own key columns and entries
  pub cols_is : tree.key_cols ≡ w.schema.key_cols
  cols_is = ap (λ (r : Tree). r.key_cols) w.tree_is

  pub list_is : tree.entries ≡ canonical_entries w.t w.x
  list_is = ap (λ (r : Tree). r.entries) w.tree_is

  pub small_rid : entry.sid < 2 ^ 63
  small_rid = omega (arith, w.ranked, rank-le-length w.key (table_with w.t w.x), w.image)

  pub small_sid : rank w.key w.t < 2 ^ 32
  small_sid = omega (arith, rank-le-length w.key w.t, w.rows)

  keyed_table : T (is_keyed_table w.schema.key_cols w.t)
  keyed_table = passes (is_keyed_table w.schema.key_cols w.t) w.over.table.keyed

  keyed : T (are_keyed_effects w.schema.key_cols w.x)
  keyed = passes (are_keyed_effects w.schema.key_cols w.x) w.over.effects_are.keyed

  fitting : T (all_fit w.t w.x)
  fitting = passes (all_fit w.t w.x) w.over.fit

  fit_now : T (fits (row_at (table_with w.t w.x) w.key) (effect_of_change entry.change))
  fit_now = passes (fits (row_at (table_with w.t w.x) w.key) (effect_of_change entry.change)) w.fit

  pub ascending : IsTrue (deletes_ascend tree.entries)
  ascending = grind (arith, common_steps, first, keyed, list_is, deletes_ascend-canonical_entries)

  -- what is known of the key
  at_key : Known w.schema w.t w.x w.key (find key_cmp w.key w.x)
  at_key = known w.schema 0 w.t w.x w.over w.key

  fit_old : T (fits (changed_by row_after (find key_cmp w.key w.x) (row_at w.t w.key)) (effect_of_change entry.change))
  fit_old = fits_here w.schema.key_cols 0 w.t w.x keyed_table keyed fitting w.key (effect_of_change entry.change) fit_now

  fit_before : T (holds_at (fits (row_at w.t w.key)) (find key_cmp w.key w.x))
  fit_before = fit_so_far w.schema.key_cols 0 w.t w.x keyed_table keyed fitting w.key

  -- the key's row is where its position is
  pub place_is : T (is_some (row_at (table_with w.t w.x) w.key)) → (P : Place)
      → ((place : Place) → IsAtRid tree.entries entry.sid place → place ≡ P) → IsRowPlace w.schema w.t w.x w.over w.key P
  place_is there P only =
      row_place w.schema w.t w.x w.over w.key entry.sid w.ranked there P
      (λ place at. only place (subst (λ (zs : List Entry). IsAtRid zs entry.sid place) (sym list_is) at))

-- a cell that fits is outside the key
outside : (schema : Columns) (col : ℕ) (value : Value) → T (cell_fits_schema schema col value) → schema.key_cols ≤ col
outside schema col value h = search rules

-- ---- an insert

module _ (tree : Tree) (s : ℕ) (row : Row) (w : IsNext tree (entry_at s (Ins row))) where
  abbrev k0 : Key
  k0 = key_of w.schema.key_cols row

  key_now : key_of tree.key_cols row ≡ w.key
  key_now = ap (λ (n : ℕ). key_of n row) (cols_is tree (entry_at s (Ins row)) w) ∙ w.own

  insert_is : canonical_entries w.t (effects_with w.x w.key (Ins row)) ≡ put_ins w.schema.key_cols (rank w.key w.t) row
      (canonical_entries w.t w.x)
  insert_is =
      let e = entry_at s (Ins row) in
      let ht = keyed_table tree e w in
      let he = keyed tree e w in
      let fe = fitting tree e w in
      let now : T (fits (row_at (table_with w.t w.x) k0) (effect.Ins row)) = subst
      (λ (k : Key). T (fits (row_at (table_with w.t w.x) k) (effect.Ins row))) (sym w.own) (fit_now tree e w) in
      subst (λ (k : Key). canonical_entries w.t (effects_with w.x k (Ins row)) ≡ put_ins w.schema.key_cols (rank k w.t) row
      (canonical_entries w.t w.x)) w.own
      (inserted w.schema.key_cols 0 w.t w.x ht he fe row (find key_cmp k0 w.x) refl
      (fit_so_far w.schema.key_cols 0 w.t w.x ht he fe k0) (fits_here w.schema.key_cols 0 w.t w.x ht he fe k0 (effect.Ins row) now))

  free_is : is_some (inserted_row w.schema.key_cols (rank w.key w.t) w.key (canonical_entries w.t w.x)) ≡ false
  free_is =
      let e = entry_at s (Ins row) in
      may_insert (inserted_row w.schema.key_cols (rank w.key w.t) w.key (canonical_entries w.t w.x)) (find key_cmp w.key w.x)
      (row_at w.t w.key) row (at_key tree e w).insert (fit_old tree e w)

  module _ (sid start end : ℕ) (only : IsOnlyFold tree.key_cols tree.entries s (Ins row) (Put sid start end)) where
    -- the one place where it comes to its position is that of its key
    there : Put sid start end ≡ Put (rank w.key w.t) (key_place w.schema w.t w.x w.over w.key) (key_place w.schema w.t w.x w.over w.key)
    there =
        only (rank w.key w.t) (key_place w.schema w.t w.x w.over w.key)
        (subst (λ (p : ℕ × Key × List Entry). IsGapAt p.0 p.1 p.2 (rank w.key w.t) (key_place w.schema w.t w.x w.over w.key))
        (λ i. (sym w.ranked i, sym key_now i, sym (list_is tree (entry_at s (Ins row)) w) i)) (gap_place w.schema w.t w.x w.over w.key))

    sid_is : sid ≡ rank w.key w.t
    sid_is = grind (arith, common_steps, there)

    walk_is : start ≡ key_place w.schema w.t w.x w.over w.key
    walk_is = ap start_of there
      where
        start_of : Fold → ℕ
        start_of (Into index) = 0
        start_of (Put n m k) = m

    pub insert_split : IsSplit (stands_before (insert_cmp tree.key_cols (key_of tree.key_cols row)) sid) tree.entries start
    insert_split = grind (arith, common_steps, cols_is, key_now, sid_is, list_is, walk_is, key_split)

    pub insert_small : sid < 2 ^ 32
    insert_small = omega (arith, sid_is, small_sid tree (entry_at s (Ins row)) w)

    pub insert_now : put_ins tree.key_cols sid row tree.entries ≡ canonical_entries w.t (effects_with w.x w.key (Ins row))
    insert_now = grind (arith, common_steps, cols_is, sid_is, list_is, insert_is)

    pub insert_free : is_some (inserted_row tree.key_cols sid (key_of tree.key_cols row) tree.entries) ≡ false
    insert_free = grind (arith, common_steps, cols_is, sid_is, key_now, list_is, free_is)

    pub insert_room : length (put_ins tree.key_cols sid row tree.entries) ≤ 2 ^ 40
    insert_room = subst (λ (zs : List Entry). length zs ≤ 2 ^ 40) (sym insert_now) w.room

    pub insert_next : (new : Tree) → new ≡ record tree { entries = put_ins tree.key_cols sid row tree.entries }
        → new ≡ next_tree tree (entry_at s (Ins row)) w
    insert_next new new_is = new_is ∙ (λ i. record { key_cols = cols_is tree (entry_at s (Ins row)) w i; entries = insert_now i })

-- the row of an insert has the column
cell_of : (col : ℕ) (c : Change) → IsSomeAnd (row_of c) (λ row. col < length row) → has_cell col c
cell_of col (Ins row) h = h
cell_of col (Del key) h = absurd h
cell_of col (Mod other value) h = absurd h

-- ---- a delete

module _ (tree : Tree) (s : ℕ) (gone : Key) (w : IsNext tree (entry_at s (Del gone))) where
  abbrev del_entry : Entry
  del_entry = entry_at s (Del gone)

  abbrev old : Option Effect
  old = find key_cmp w.key w.x

  pub delete_there : T (is_some (row_at (table_with w.t w.x) w.key))
  delete_there = fit_now tree del_entry w

  delete_is : canonical_entries w.t (effects_with w.x w.key (Del gone)) ≡ cond (is_some (row_inserted old))
      (take_ins w.schema.key_cols (rank w.key w.t) w.key (canonical_entries w.t w.x))
      (put_del w.schema.key_cols (rank w.key w.t) w.key (canonical_entries w.t w.x))
  delete_is =
      deleted w.schema.key_cols 0 w.t w.x (keyed_table tree del_entry w) (keyed tree del_entry w)
      (fitting tree del_entry w) w.key old refl (fit_before tree del_entry w) (fit_old tree del_entry w)
      ∙ deletes_by w.schema.key_cols (rank w.key w.t) w.key old (canonical_entries w.t w.x)

  delete_may : MayEdit w.schema.key_cols (rank w.key w.t) (Delete w.key) old (canonical_entries w.t w.x)
  delete_may = may_delete w.schema w.t w.x w.key old (at_key tree del_entry w) (fit_old tree del_entry w)

  module _ (n : ℕ) (only : (place : Place) → IsAtRid tree.entries s place → place ≡ Inserted n) where
    found : IsRowPlace w.schema w.t w.x w.over w.key (Inserted n)
    found = place_is tree del_entry w delete_there (Inserted n) only

    pub take_within : n < length tree.entries
    take_within = omega (arith, found.0.short, ap length (list_is tree del_entry w))

    take_now : remove tree.entries n ≡ canonical_entries w.t (effects_with w.x w.key (Del gone))
    take_now = grind (arith, common_steps, remove, list_is, found, delete_is)

    pub take_next : (new : Tree) → new ≡ record tree { entries = remove tree.entries n } → new ≡ next_tree tree del_entry w
    take_next new new_is = new_is ∙ (λ i. record { key_cols = cols_is tree del_entry w i; entries = take_now i })

  module _ (q : ℕ) (only : (place : Place) → IsAtRid tree.entries s place → place ≡ Base q) where
    on_base : IsRowPlace w.schema w.t w.x w.over w.key (Base q)
    on_base = place_is tree del_entry w delete_there (Base q) only

    pub delete_small : q < 2 ^ 32
    delete_small = omega (arith, on_base.0, small_sid tree del_entry w)

    pub delete_now : put_del tree.key_cols q gone tree.entries ≡ canonical_entries w.t (effects_with w.x w.key (Del gone))
    delete_now = grind (arith, common_steps, cols_is, on_base, list_is, delete_is)

    pub delete_free : has_delete q tree.entries ≡ false
    delete_free = grind (arith, common_steps, on_base, list_is, may_delete_by, delete_may)

    pub delete_room : length (put_del tree.key_cols q gone tree.entries) ≤ 2 ^ 40
    delete_room = subst (λ (zs : List Entry). length zs ≤ 2 ^ 40) (sym delete_now) w.room

    pub delete_next : (new : Tree) → new ≡ record tree { entries = put_del tree.key_cols q gone tree.entries }
        → new ≡ next_tree tree del_entry w
    delete_next new new_is = new_is ∙ (λ i. record { key_cols = cols_is tree del_entry w i; entries = delete_now i })

-- ---- a modify

module _ (tree : Tree) (s col : ℕ) (value : Value) (w : IsNext tree (entry_at s (Mod col value))) where
  abbrev mod_entry : Entry
  mod_entry = entry_at s (Mod col value)

  abbrev before : Option Effect
  before = find key_cmp w.key w.x

  pub modify_there : T (is_some (row_at (table_with w.t w.x) w.key))
  modify_there = fit_now tree mod_entry w

  modify_is : canonical_entries w.t (effects_with w.x w.key (Mod col value)) ≡ cond (is_some (row_inserted before))
      (set_ins w.schema.key_cols (rank w.key w.t) w.key col value (canonical_entries w.t w.x))
      (put_mod w.schema.key_cols (rank w.key w.t) col value (canonical_entries w.t w.x))
  modify_is =
      modified w.schema.key_cols 0 w.t w.x (keyed_table tree mod_entry w) (keyed tree mod_entry w)
      (fitting tree mod_entry w) w.key col value before refl (fit_before tree mod_entry w) (fit_old tree mod_entry w)
      ∙ sets_by w.schema.key_cols (rank w.key w.t) w.key col value before (canonical_entries w.t w.x)

  cell_fit : T (cell_fits_schema w.schema col value)
  cell_fit = passes (cell_fits_schema w.schema col value) w.cell

  modify_may : MayEdit w.schema.key_cols (rank w.key w.t) (Set w.key col value) before (canonical_entries w.t w.x)
  modify_may =
      may_set w.schema w.t w.x w.key col value cell_fit (outside w.schema col value cell_fit) before (at_key tree mod_entry w)
      (fit_old tree mod_entry w)

  may_parts : (is_some (row_inserted before) ≡ true
      → IsSomeAnd (inserted_row w.schema.key_cols (rank w.key w.t) w.key (canonical_entries w.t w.x)) (λ row. col < length row)) ×
      (is_some (row_inserted before) ≡ true → w.schema.key_cols ≤ col) × (is_some (row_inserted before) ≡ false
      → IsFalse (has_delete (rank w.key w.t) (canonical_entries w.t w.x)))
  may_parts = may_set_by w.schema.key_cols (rank w.key w.t) w.key col value before (canonical_entries w.t w.x) modify_may

  module _ (n : ℕ) (only : (place : Place) → IsAtRid tree.entries s place → place ≡ Inserted n) where
    row_found : IsRowPlace w.schema w.t w.x w.over w.key (Inserted n)
    row_found = place_is tree mod_entry w modify_there (Inserted n) only

    pub set_within : n < length tree.entries
    set_within = omega (arith, row_found.0.short, ap length (list_is tree mod_entry w))

    abbrev item : Entry
    item = get_or (canonical_entries w.t w.x) n nothing

    pub set_there : (r : Entry) → slice_get tree.entries n ≡ Some r → has_cell col r.change
    set_there r at =
        let here = ap (λ (zs : List Entry). slice_get zs n) (sym (list_is tree mod_entry w)) ∙ at in
        let same : item ≡ r = get_or_from_slice_get (canonical_entries w.t w.x) n r nothing here in
        let row = subst (λ (o : Option Row). IsSomeAnd o (λ row. col < length row)) row_found.0.row_is (may_parts.0 row_found.1) in
        subst (λ (e : Entry). has_cell col e.change) same (cell_of col item.change row)

    pub set_outside : tree.key_cols ≤ col
    set_outside = let le = may_parts.1 row_found.1 in omega (arith, le, cols_is tree mod_entry w)

    set_now : set tree.entries n (entry_at item.sid (change_with_cell col value item.change)) ≡ canonical_entries w.t
        (effects_with w.x w.key (Mod col value))
    set_now = grind (arith, common_steps, list_is, row_found, modify_is)

    pub set_next : (new : Tree)
        → ((r : Entry) → slice_get tree.entries n ≡ Some r
        → new ≡ record tree { entries = set tree.entries n (entry_at r.sid (change_with_cell col value r.change)) })
        → new ≡ next_tree tree mod_entry w
    set_next new new_is = grind (arith, common_steps, list_is, slice_get-get_or, nothing, row_found, cols_is, set_now)

  module _ (q : ℕ) (only : (place : Place) → IsAtRid tree.entries s place → place ≡ Base q) where
    row_on_base : IsRowPlace w.schema w.t w.x w.over w.key (Base q)
    row_on_base = place_is tree mod_entry w modify_there (Base q) only

    pub modify_small : q < 2 ^ 32
    modify_small = omega (arith, row_on_base.0, small_sid tree mod_entry w)

    pub modify_now : put_mod tree.key_cols q col value tree.entries ≡ canonical_entries w.t (effects_with w.x w.key (Mod col value))
    modify_now = grind (arith, common_steps, cols_is, row_on_base, list_is, modify_is)

    pub modify_free : has_delete q tree.entries ≡ false
    modify_free =
        (λ i. has_delete (row_on_base.0 i) (list_is tree mod_entry w i)) ∙ may_parts.2 row_on_base.1

    pub modify_room : length (put_mod tree.key_cols q col value tree.entries) ≤ 2 ^ 40
    modify_room = subst (λ (zs : List Entry). length zs ≤ 2 ^ 40) (sym modify_now) w.room

    pub modify_next : (new : Tree) → new ≡ record tree { entries = put_mod tree.key_cols q col value tree.entries }
        → new ≡ next_tree tree mod_entry w
    modify_next new new_is = new_is ∙ (λ i. record { key_cols = cols_is tree mod_entry w i; entries = modify_now i })

-- ---- whatever is put in

-- a change that is put in at a place may be put there
pub put_may : (tree : Tree) (s : ℕ) (c : Change) (w : IsNext tree (entry_at s c)) (sid start end : ℕ)
    → IsFold tree.key_cols tree.entries s c (Put sid start end)
    → IsOnlyFold tree.key_cols tree.entries s c (Put sid start end) → MayBePutAt tree.key_cols sid c tree.entries start end
put_may tree s (Ins row) w sid start end fold only = record {
  run = (insert_split tree s row w sid start end only, fold.1);
  free = insert_free tree s row w sid start end only;
  small = insert_small tree s row w sid start end only;
  room = insert_room tree s row w sid start end only;
}
put_may tree s (Del key) w sid start end fold only = record {
  run = fold.1;
  free = delete_free tree s key w sid only;
  small = delete_small tree s key w sid only;
  room = delete_room tree s key w sid only;
}
put_may tree s (Mod col value) w sid start end fold only = record {
  run = fold.1;
  free = modify_free tree s col value w sid only;
  small = modify_small tree s col value w sid only;
  room = modify_room tree s col value w sid only;
}

-- and makes the next tree
pub put_next : (tree : Tree) (s : ℕ) (c : Change) (sid start end : ℕ) → IsOnlyFold tree.key_cols tree.entries s c (Put sid start end)
    → (new : Tree) → new ≡ record tree { entries = entries_with tree.key_cols sid c tree.entries } → (w : IsNext tree (entry_at s c)) →
    new ≡ next_tree tree (entry_at s c) w
put_next tree s (Ins row) sid start end only new is w = insert_next tree s row w sid start end only new is
put_next tree s (Del key) sid start end only new is w = delete_next tree s key w sid only new is
put_next tree s (Mod col value) sid start end only new is w = modify_next tree s col value w sid only new is

-- what holds of each step with a change holds of those with an equal one
pub told : (tree : Tree) (s : ℕ) (d c : Change) → d ≡ c → (P : (e : Change) → IsNext tree (entry_at s e) → Type 0)
    → ((w : IsNext tree (entry_at s c)) → P c w) → (w : IsNext tree (entry_at s d)) → P d w
told tree s d c is P all = let Q = λ (e : Change). (w : IsNext tree (entry_at s e)) → P e w in subst Q (sym is) all
