-- The laws of lists of entries, in the words that contracts cite.
use Rattle.std.proofs.Common.{◌≡◌, ◌≢◌, ℕ, ◌<◌, ◌≤◌, Bool, true, false, cond, not, ◌&&◌, ◌||◌, T, Option, Some, None, is_some, List, [], ◌∷◌, ◌++◌, map, length, Less, Equal, Greater, is_lt, is_eq, nat_cmp, refl, sym, ap, ◌∙◌, subst, arith, rules}
use Rattle.std.specs.Prelude.{◌==◌, nat_le, IsSomeAnd}
use Rattle.std.specs.Bool.{passes}
use Rattle.std.specs.Ordering.{eq_by_cmp}
use Rattle.std.specs.List.{list_all, list_any}
use Rattle.std.specs.FinMap.Entries.{below_all}
use Rattle.std.proofs.lemmas.Bool.{eqb-true}
use Rattle.std.proofs.lemmas.Bool.Decides.{nat_tests}
use Rattle.std.proofs.lemmas.Option.{slice_get_within}
use Rattle.values.specs.Orders.{key_cmp, key_cmp_total, key_cmp-IsAntisymmetric}
use Rattle.values.specs.Shape.{Columns, key_of, fits_schema, cell_fits_schema}
use Rattle.values.specs.declared.row.Row.{Row}
use Rattle.values.specs.declared.row.Key.{Key}
use Rattle.values.specs.declared.value.Value.{Value}
use Rattle.model.specs.declared.entry.Entry.{Entry}
use Rattle.model.specs.declared.entry.Change.{Change}
use Rattle.model.specs.declared.entry.Change.TheVariants.{Ins, Del, Mod}
use Rattle.model.specs.declared.write.Write.{Write}
use Rattle.model.specs.declared.write.Write.TheVariants.{Insert, Delete, Set}
use Rattle.model.specs.declared.effect.Effect.{Effect}
use Rattle.model.specs.declared.effect.Effect.TheVariants as effect
use Rattle.model.specs.Maps.{find, is_sorted}
use Rattle.model.specs.Table.{Table, is_keyed_table, table_of, row_at, rank}
use Rattle.model.specs.Effects.{Cells, Effects, is_keyed_effect, are_keyed_effects, fits, all_fit, row_after, effect_fits_schema, AreOver}
use Rattle.model.specs.Writes.{write_fits_schema, key_of_write, effect_of_write, reply_to, is_done}
use Rattle.model.specs.Entries.{entry_at, is_delete, is_modify, entries_of, canonical_entries, change_cmp, entry_cmp, are_ordered}
use Rattle.model.specs.Merging.{changes_at, inserted_rows}
use Rattle.model.proofs.CallerLemmas.{both, first, second, less, turn_greater, below_tied, changed_by, holds_at, each_at, row_at-table_with, done_fits, sets_no_key-fits, single_delete, is_placed, rank-lt, equal, same_key}
use Rattle.delta.specs.Lookups.{has_delete, inserted_row, is_insert_at}
use Rattle.delta.specs.Changes.{is_delete_at}
use Rattle.delta.specs.Laws.{InsertsAscendAtASid, row_inserted, deletes_row, CanonicalLookUps, MayEdit, AWriteIsOneCall}
use Rattle.delta.proofs.SearchLemmas.{is_true}
use Rattle.delta.proofs.ChangesLemmas.{all_skipped, none_inserted}
use Rattle.delta.proofs.LookupLemmas.{no_deletes, skip_deletes}
use Rattle.std.proofs.lemmas.Grind.{common_steps}

-- ---- the changes at one SID

module _ (key_cols : ℕ) where
  -- the changes that stand after one at its SID
  abbrev stand_after : Change → List Change → Bool
  stand_after c cs = list_all (λ d. is_lt (change_cmp key_cols c d)) cs

  -- changes in order
  abbrev in_order : List Change → Bool
  in_order [] = true
  in_order (c ∷ cs) = stand_after c cs && in_order cs

  -- an entry that follows at the same SID follows by its change
  level : (x y : Entry) (sid : ℕ) → x.sid ≡ sid → y.sid ≡ sid → T (is_lt (entry_cmp key_cols x y))
      → T (is_lt (change_cmp key_cols x.change y.change))
  level x y sid p q h = search rules

  -- of the entries that follow one, those at its SID
  after_at : (sid : ℕ) (x : Entry) (es : List Entry) → x.sid ≡ sid → T (list_all (λ y. is_lt (entry_cmp key_cols x y)) es)
      → T (stand_after x.change (changes_at sid es))
  after_at sid x [] is h = tt
  after_at sid x (y ∷ es) is h = grind (arith, common_steps, after_at sid x es is (second (is_lt (entry_cmp key_cols x y)) (list_all (λ z. is_lt (entry_cmp key_cols x z)) es) h), second, both, level, eqb-true, first)

  -- entries in order have their changes in order at each SID
  in_order-at : (sid : ℕ) (es : List Entry) → T (are_ordered key_cols es) → T (in_order (changes_at sid es))
  in_order-at sid [] h = tt
  in_order-at sid (x ∷ es) h = grind (arith, common_steps, in_order-at sid es (second (list_all (λ y. is_lt (entry_cmp key_cols x y)) es) (are_ordered key_cols es) h), second, both, after_at, eqb-true, first)

  -- the rows that are inserted after a row have greater keys
  rows_above : (row : Row) (cs : List Change) → T (stand_after (Ins row) cs)
      → T (below_all key_cmp (key_of key_cols row) (table_of key_cols (inserted_rows cs)))
  rows_above row [] h = tt
  rows_above row (Ins other ∷ cs) h =
      let here = is_lt (key_cmp (key_of key_cols row) (key_of key_cols other)) in
      both here _ (first here (stand_after (Ins row) cs) h) (rows_above row cs (second here (stand_after (Ins row) cs) h))
  rows_above row (Del key ∷ cs) h = rows_above row cs h
  rows_above row (Mod col value ∷ cs) h = rows_above row cs h

  -- so the rows that are inserted ascend
  rows_sorted : (cs : List Change) → T (in_order cs) → T (is_sorted key_cmp (table_of key_cols (inserted_rows cs)))
  rows_sorted [] h = tt
  rows_sorted (Ins row ∷ cs) h = grind (arith, common_steps, rows_sorted cs (second (stand_after (Ins row) cs) (in_order cs) h), both, rows_above, first, second)
  rows_sorted (Del key ∷ cs) h = rows_sorted cs (second (stand_after (Del key) cs) (in_order cs) h)
  rows_sorted (Mod col value ∷ cs) h = rows_sorted cs (second (stand_after (Mod col value) cs) (in_order cs) h)

  -- after a delete stands no modify
  after_delete : (key : Key) (cs : List Change) → T (stand_after (Del key) cs) → T (not (list_any is_modify cs))
  after_delete key [] h = tt
  after_delete key (Ins row ∷ cs) h = absurd h
  after_delete key (Del other ∷ cs) h = absurd h
  after_delete key (Mod col value ∷ cs) h = absurd h

  -- after a modify stands no delete
  after_modify : (col : ℕ) (value : Value) (cs : List Change) → T (stand_after (Mod col value) cs) → T (list_any is_delete cs) → ⊥
  after_modify col value [] h d = d
  after_modify col value (Ins row ∷ cs) h d = h
  after_modify col value (Del key ∷ cs) h d = h
  after_modify col value (Mod other w ∷ cs) h d =
      after_modify col value cs (second (is_lt (nat_cmp col other)) (stand_after (Mod col value) cs) h) d

  -- so where a delete stands no modify does
  no_modify : (cs : List Change) → T (in_order cs) → T (list_any is_delete cs) → T (not (list_any is_modify cs))
  no_modify [] h d = absurd d
  no_modify (Ins row ∷ cs) h d = no_modify cs (second (stand_after (Ins row) cs) (in_order cs) h) d
  no_modify (Del key ∷ cs) h d = after_delete key cs (first (stand_after (Del key) cs) (in_order cs) h)
  no_modify (Mod col value ∷ cs) h d = absurd (after_modify col value cs (first (stand_after (Mod col value) cs) (in_order cs) h) d)

-- what stands at one SID of a lawful list
pub shared : (key_cols : ℕ) → InsertsAscendAtASid key_cols
shared key_cols entries sid lawful =
    let ordered = passes (are_ordered key_cols entries) lawful.ordered in
    let cs = changes_at sid entries in
    let order = in_order-at key_cols sid entries ordered in
    record {
      inserts = is_true _ (rows_sorted key_cols cs order);
      deletes = single_delete key_cols entries ordered sid;
      alone = λ d. is_true _ (no_modify key_cols cs order (passes (list_any is_delete cs) d));
    }

-- ---- the entries of other keys

-- what isn't true
not_true : (b : Bool) → b ≡ false → T (not b)
not_true true e = cc
not_true false e = tt

-- with what isn't true nothing is
and_none : (a b : Bool) → b ≡ false → T (not (a && b))
and_none true b e = not_true b e
and_none false b e = tt

-- a number is itself
same_number : (n : ℕ) → (n == n) ≡ true
same_number n = grind (arith, nat_tests)

module _ (key_cols : ℕ) (t : Table) (k : Key) where
  -- two keys of the table have different places
  other_rank : (j : Key) → eq_by_cmp key_cmp k j ≡ false → T (is_some (row_at t k)) → T (is_some (row_at t j))
      → (rank j t == rank k t) ≡ false
  other_rank j ne hk hj =
      elim (key_cmp k j) as (λ r. key_cmp k j ≡ r → (rank j t == rank k t) ≡ false) [
        | Less ↦ λ p. let lt = rank-lt k j t p hk in differ (rank j t) (rank k t) (λ e. omega arith)
        | Equal ↦ λ p. absurd (subst T (sym (ap is_eq p) ∙ ne) tt)
        | Greater ↦ λ p. let lt = rank-lt j k t (turn_greater key_cmp_total k j p) hj in differ (rank j t) (rank k t) (λ e. omega arith)
      ] refl
    where
      differ : (n m : ℕ) → n ≢ m → (n == m) ≡ false
      differ n m h = grind (arith, nat_tests)

  -- of a test that no entry of another key passes
  module _ (p : Entry → Bool) (apart : (j : Key) (c : Change) → eq_by_cmp key_cmp k j ≡ false → T (is_placed key_cols t j c)
      → T (not (p (entry_at (rank j t) c)))) where
    -- none of the entries passes
    abbrev none : List Entry → Bool
    none es = list_all (λ e. not (p e)) es

    -- nor do two such lists, one after the other
    none-append : (xs ys : List Entry) → T (none xs) → T (none ys) → T (none (xs ++ ys))
    none-append [] ys h g = g
    none-append (x ∷ xs) ys h g = both (not (p x)) _ (first (not (p x)) (none xs) h) (none-append xs ys (second (not (p x)) (none xs) h) g)

    -- the modifies of another row don't
    none_of_cells : (j : Key) (cells : Cells) → eq_by_cmp key_cmp k j ≡ false → T (is_some (row_at t j))
        → T (none (map (λ d. entry_at (rank j t) (Mod d.0 d.1)) cells))
    none_of_cells j [] ne hj = tt
    none_of_cells j (d ∷ cells) ne hj =
        both (not (p (entry_at (rank j t) (Mod d.0 d.1)))) _ (apart j (Mod d.0 d.1) ne hj) (none_of_cells j cells ne hj)

    -- nor does any entry of another key's effect
    none_of : (j : Key) (g : Effect) → eq_by_cmp key_cmp k j ≡ false → T (is_keyed_effect key_cols j g) → T (fits (row_at t j) g)
        → T (none (entries_of (rank j t) j g))
    none_of j (effect.Ins row) ne he hf = both (not (p (entry_at (rank j t) (Ins row)))) true (apart j (Ins row) ne he) tt
    none_of j effect.Del ne he hf = both (not (p (entry_at (rank j t) (Del j)))) true (apart j (Del j) ne hf) tt
    none_of j (effect.Mod cells) ne he hf = none_of_cells j cells ne hf
    none_of j (effect.Rep row) ne he hf = search rules

    -- none of greater keys
    none_above : (x : Effects) → T (below_all key_cmp k x) → T (list_all (λ e. is_keyed_effect key_cols e.0 e.1) x)
        → T (all_fit t x) → T (none (canonical_entries t x))
    none_above [] h he hf = tt
    none_above (e ∷ x) h he hf = grind (arith, common_steps, none_above x (second (is_lt (key_cmp k e.0)) (below_all key_cmp k x) h) (second (is_keyed_effect key_cols e.0 e.1) _ he) (second (fits (row_at t e.0) e.1) _ hf), none-append, none_of, is_eq, less, first, second)

  -- what is found in the entries of all effects is found in those of the key's own
  module _ {A : Type 0} (look : List Entry → A) (found : Option Effect → A) (p : Entry → Bool)
      (apart : (j : Key) (c : Change) → eq_by_cmp key_cmp k j ≡ false → T (is_placed key_cols t j c) → T (not (p (entry_at (rank j t) c))))
      (skips : (xs ys : List Entry) → T (list_all (λ e. not (p e)) xs) → look (xs ++ ys) ≡ look ys)
      (nothing : look [] ≡ found None)
      (own : (f : Effect) (ys : List Entry) → T (is_keyed_effect key_cols k f) → T (list_all (λ e. not (p e)) ys)
      → look (entries_of (rank k t) k f ++ ys) ≡ found (Some f))
    where
      -- by the effects in turn
      look-canonical_entries : (x : Effects) → T (is_sorted key_cmp x) → T (list_all (λ e. is_keyed_effect key_cols e.0 e.1) x)
          → T (all_fit t x) → look (canonical_entries t x) ≡ found (find key_cmp k x)
      look-canonical_entries [] hs he hf = nothing
      look-canonical_entries (e ∷ x) hs he hf =
          let keyed = first (is_keyed_effect key_cols e.0 e.1) (list_all (λ e. is_keyed_effect key_cols e.0 e.1) x) he in
          let rest_keyed = second (is_keyed_effect key_cols e.0 e.1) (list_all (λ e. is_keyed_effect key_cols e.0 e.1) x) he in
          let fit = first (fits (row_at t e.0) e.1) (all_fit t x) hf in
          let rest_fit = second (fits (row_at t e.0) e.1) (all_fit t x) hf in
          elim (eq_by_cmp key_cmp k e.0) as (λ b. eq_by_cmp key_cmp k e.0 ≡ b
          → look (entries_of (rank e.0 t) e.0 e.1 ++ canonical_entries t x) ≡ found (cond b (Some e.1) (find key_cmp k x))) [
            | true ↦ λ q.
                let tie = equal (key_cmp k e.0) (subst T (sym q) tt) in
                let same = key_cmp-IsAntisymmetric k e.0 tie in
                let above = below_tied key_cmp key_cmp_total k e.0 x tie (first (below_all key_cmp e.0 x) (is_sorted key_cmp x) hs) in
                ap (λ j. look (entries_of (rank j t) j e.1 ++ canonical_entries t x)) (sym same)
                ∙ own e.1 (canonical_entries t x) (subst (λ j. T (is_keyed_effect key_cols j e.1)) (sym same) keyed)
                (none_above p apart x above rest_keyed rest_fit)
            | false ↦ λ q.
                skips (entries_of (rank e.0 t) e.0 e.1) (canonical_entries t x) (none_of p apart e.0 e.1 q keyed fit)
                ∙ look-canonical_entries x (second (below_all key_cmp e.0 x) (is_sorted key_cmp x) hs) rest_keyed rest_fit
          ] refl

  -- ---- the insert of the key

  -- whether an entry is the insert of the key
  abbrev its_insert : Entry → Bool
  its_insert e = is_insert_at key_cols (rank k t) k e

  -- no entry of another key is
  other_insert : (j : Key) (c : Change) → eq_by_cmp key_cmp k j ≡ false → T (is_placed key_cols t j c)
      → T (not (its_insert (entry_at (rank j t) c)))
  other_insert j (Ins row) ne h =
      and_none (rank j t == rank k t) (eq_by_cmp key_cmp k (key_of key_cols row))
      (ap (eq_by_cmp key_cmp k) (sym (same_key j (key_of key_cols row) h)) ∙ ne)
  other_insert j (Del key) ne h = and_none (rank j t == rank k t) false refl
  other_insert j (Mod col value) ne h = and_none (rank j t == rank k t) false refl

  -- no modify is
  no_cell_inserts : (cells : Cells) → T (list_all (λ e. not (its_insert e)) (map (λ d. entry_at (rank k t) (Mod d.0 d.1)) cells))
  no_cell_inserts [] = tt
  no_cell_inserts (d ∷ cells) =
      both (not ((rank k t == rank k t) && false)) _ (and_none (rank k t == rank k t) false refl) (no_cell_inserts cells)

  -- the insert of a row with the key is
  its_own : (row : Row) → T (eq_by_cmp key_cmp k (key_of key_cols row)) → its_insert (entry_at (rank k t) (Ins row)) ≡ true
  its_own row h = search rules

  -- so of the key's own entries the row of its insert is found
  own_insert : (f : Effect) (ys : List Entry) → T (is_keyed_effect key_cols k f) → T (list_all (λ e. not (its_insert e)) ys)
      → inserted_row key_cols (rank k t) k (entries_of (rank k t) k f ++ ys) ≡ row_inserted (Some f)
  own_insert (effect.Ins row) ys h none = ap (λ b. cond b (Some row) (inserted_row key_cols (rank k t) k ys)) (its_own row h)
  own_insert effect.Del ys h none = grind (arith, common_steps, all_skipped, both, and_none, none_inserted)
  own_insert (effect.Mod cells) ys h none =
      all_skipped key_cols (rank k t) k (map (λ d. entry_at (rank k t) (Mod d.0 d.1)) cells) ys (no_cell_inserts cells)
      ∙ none_inserted key_cols (rank k t) k ys none
  own_insert (effect.Rep row) ys h none =
      ap (λ b. cond b (Some row) (inserted_row key_cols (rank k t) k (entry_at (rank k t) (Del k) ∷ ys))) (its_own row h)

  -- ---- the delete of its row

  module _ (there : T (is_some (row_at t k))) where
    -- whether an entry is the delete of the row
    abbrev its_delete : Entry → Bool
    its_delete e = is_delete_at (rank k t) e

    -- no entry of another key is
    other_delete : (j : Key) (c : Change) → eq_by_cmp key_cmp k j ≡ false → T (is_placed key_cols t j c)
        → T (not (its_delete (entry_at (rank j t) c)))
    other_delete j (Ins row) ne h = and_none (rank j t == rank k t) false refl
    other_delete j (Del key) ne h = not_true ((rank j t == rank k t) && true) (ap (λ b. b && true) (other_rank j ne there h))
    other_delete j (Mod col value) ne h = and_none (rank j t == rank k t) false refl

    -- no modify is
    no_cell_deletes : (cells : Cells) → T (list_all (λ e. not (its_delete e)) (map (λ d. entry_at (rank k t) (Mod d.0 d.1)) cells))
    no_cell_deletes [] = tt
    no_cell_deletes (d ∷ cells) =
        both (not ((rank k t == rank k t) && false)) _ (and_none (rank k t == rank k t) false refl) (no_cell_deletes cells)

    -- nor is an insert
    no_delete_first : (row : Row) → T (list_all (λ e. not (its_delete e)) (entry_at (rank k t) (Ins row) ∷ []))
    no_delete_first row = both (not ((rank k t == rank k t) && false)) true (and_none (rank k t == rank k t) false refl) tt

    -- the delete itself is
    delete_here : (ys : List Entry) → has_delete (rank k t) (entry_at (rank k t) (Del k) ∷ ys) ≡ true
    delete_here ys = ap (λ b. (b && true) || has_delete (rank k t) ys) (same_number (rank k t))

    -- so of the key's own entries its delete is found
    own_delete : (f : Effect) (ys : List Entry) → T (is_keyed_effect key_cols k f) → T (list_all (λ e. not (its_delete e)) ys)
        → has_delete (rank k t) (entries_of (rank k t) k f ++ ys) ≡ deletes_row (Some f)
    own_delete (effect.Ins row) ys h none =
        skip_deletes key_cols (rank k t) (entry_at (rank k t) (Ins row) ∷ []) ys (no_delete_first row)
        ∙ no_deletes key_cols (rank k t) ys none
    own_delete effect.Del ys h none = delete_here ys
    own_delete (effect.Mod cells) ys h none =
        skip_deletes key_cols (rank k t) (map (λ d. entry_at (rank k t) (Mod d.0 d.1)) cells) ys (no_cell_deletes cells)
        ∙ no_deletes key_cols (rank k t) ys none
    own_delete (effect.Rep row) ys h none = search rules

-- what a transaction finds of its own effects
pub finds_effect : (schema : Columns) → CanonicalLookUps schema
finds_effect schema t x key over =
    let key_cols = schema.key_cols in
    let keyed = passes (are_keyed_effects key_cols x) over.effects_are.keyed in
    let sorted = first (is_sorted key_cmp x) (list_all (λ e. is_keyed_effect key_cols e.0 e.1) x) keyed in
    let each = second (is_sorted key_cmp x) (list_all (λ e. is_keyed_effect key_cols e.0 e.1) x) keyed in
    let fit = passes (all_fit t x) over.fit in
    record {
      insert = look-canonical_entries key_cols t key (inserted_row key_cols (rank key t) key) row_inserted (its_insert key_cols t key)
          (other_insert key_cols t key) (all_skipped key_cols (rank key t) key) refl (own_insert key_cols t key) x sorted each fit;
      delete = λ there.
          let here = passes (is_some (row_at t key)) there in
          look-canonical_entries key_cols t key (has_delete (rank key t)) deletes_row (its_delete key_cols t key here)
          (other_delete key_cols t key here) (skip_deletes key_cols (rank key t)) refl (own_delete key_cols t key here) x sorted each fit;
    }

-- ---- the change that a write makes

-- a row that fits has as many cells as there are columns
pub length-fits : (schema : Columns) (row : Row) → T (fits_schema schema row) → length row ≡ length schema.types
length-fits schema row h = search rules

-- and a cell that fits is in one of them
cell_within : (schema : Columns) (col : ℕ) (value : Value) → T (cell_fits_schema schema col value) → col < length schema.types
cell_within schema col value h = grind (arith, common_steps, slice_get_within)

-- so it is in the row
in_row : (schema : Columns) (row : Row) (col : ℕ) (value : Value) → T (fits_schema schema row)
    → T (cell_fits_schema schema col value) → col < length row
in_row schema row col value h g = let same = length-fits schema row h in let within = cell_within schema col value g in omega arith

-- a column outside the key
past_key : (n m : ℕ) → T (nat_le n m) → n ≤ m
past_key n m h = search rules

-- what holds of the row that is found
some_and : (o : Option Row) (row : Row) (P : Row → Type 0) → o ≡ Some row → P row → IsSomeAnd o P
some_and o row P is h = subst (λ (p : Option Row). IsSomeAnd p P) (sym is) h

module _ (schema : Columns) (t : Table) (x : Effects) (k : Key) where
  -- the key's place
  abbrev pub sid : ℕ
  sid = rank k t

  -- the entries of all effects
  abbrev pub entries : List Entry
  entries = canonical_entries t x

  module _ (old : Option Effect) where
    -- what is known of the key: its effect's look-ups, and that its effect fits
    pub record Known : Type 0 where
      pub insert : inserted_row schema.key_cols sid k entries ≡ row_inserted old
      pub delete : is_some (row_at t k) ≡ true → has_delete sid entries ≡ deletes_row old
      pub fit : T (holds_at (fits (row_at t k)) old)
      pub shaped : T (holds_at (effect_fits_schema schema) old)

  -- the key's row may be deleted
  pub may_delete : (old : Option Effect) → Known old → T (fits (changed_by row_after old (row_at t k)) effect.Del)
      → MayEdit schema.key_cols sid (Delete k) old entries
  may_delete None h done = h.delete (is_true (is_some (row_at t k)) done)
  may_delete (Some (effect.Ins row)) h done = ap is_some h.insert
  may_delete (Some effect.Del) h done = absurd done
  may_delete (Some (effect.Mod cells)) h done = h.delete (is_true (is_some (row_at t k)) h.fit)
  may_delete (Some (effect.Rep row)) h done = ap is_some h.insert

  module _ (col : ℕ) (value : Value) (fitting : T (cell_fits_schema schema col value)) (outside : schema.key_cols ≤ col) where
    -- and a cell of it may be set
    pub may_set : (old : Option Effect) → Known old
        → T (fits (changed_by row_after old (row_at t k)) (effect.Mod ((col, value) ∷ [])))
        → MayEdit schema.key_cols sid (Set k col value) old entries
    may_set None h done = h.delete (is_true (is_some (row_at t k)) done)
    may_set (Some (effect.Ins row)) h done = grind (arith, common_steps, some_and, in_row)
    may_set (Some effect.Del) h done = absurd done
    may_set (Some (effect.Mod cells)) h done = h.delete (is_true (is_some (row_at t k)) h.fit)
    may_set (Some (effect.Rep row)) h done = grind (arith, common_steps, some_and, in_row)

-- a key whose effect inserts a row can't be inserted again
pub may_insert : (o : Option Row) (old : Option Effect) (there : Option Row) (row : Row) → o ≡ row_inserted old
    → T (fits (changed_by row_after old there) (effect.Ins row)) → is_some o ≡ false
may_insert o None there row is done = ap is_some is
may_insert o (Some (effect.Ins r)) there row is done = absurd done
may_insert o (Some effect.Del) there row is done = ap is_some is
may_insert o (Some (effect.Mod cells)) there row is done = ap is_some is
may_insert o (Some (effect.Rep r)) there row is done = absurd done

module _ (schema : Columns) (limit : ℕ) (t : Table) (x : Effects) (over : AreOver schema t x) where
  -- the effects stand under their keys
  keyed : T (are_keyed_effects schema.key_cols x)
  keyed = passes (are_keyed_effects schema.key_cols x) over.effects_are.keyed

  -- so do the rows of the table
  table_keyed : T (is_keyed_table schema.key_cols t)
  table_keyed = passes (is_keyed_table schema.key_cols t) over.table.keyed

  -- and the effects fit the table
  fit_all : T (all_fit t x)
  fit_all = passes (all_fit t x) over.fit

  -- what is known of a key
  pub known : (k : Key) → Known schema t x k (find key_cmp k x)
  known k =
      let found = finds_effect schema t x k over in
      record {
        insert = found.insert;
        delete = found.delete;
        fit = each_at key_cmp key_cmp_total key_cmp-IsAntisymmetric (λ j f. fits (row_at t j) f) x fit_all k;
        shaped =
            each_at key_cmp key_cmp_total key_cmp-IsAntisymmetric (λ j f. effect_fits_schema schema f) x
            (passes (list_all (λ e. effect_fits_schema schema e.1) x) over.effects_are.fitting) k;
      }

  -- the write fits what its key has so far
  fits_now : (write : Write) → T (is_done (reply_to schema.key_cols limit t x write))
      → (let k = key_of_write schema.key_cols write in
      T (fits (changed_by row_after (find key_cmp k x) (row_at t k)) (effect_of_write write)))
  fits_now write done = grind (arith, common_steps, row_at-table_with, first, keyed, done_fits, table_keyed, fit_all)

  -- so each write may make its edit
  may_edit : (write : Write) → T (write_fits_schema schema write) → T (is_done (reply_to schema.key_cols limit t x write))
      → (let k = key_of_write schema.key_cols write in
      MayEdit schema.key_cols (rank k t) write (find key_cmp k x) (canonical_entries t x))
  may_edit (Insert row) h done =
      let k = key_of schema.key_cols row in
      may_insert (inserted_row schema.key_cols (rank k t) k (canonical_entries t x)) (find key_cmp k x) (row_at t k) row
      (known k).insert (fits_now (Insert row) done)
  may_edit (Delete k) h done = may_delete schema t x k (find key_cmp k x) (known k) (fits_now (Delete k) done)
  may_edit (Set k col value) h done =
      may_set schema t x k col value (second _ (cell_fits_schema schema col value) h)
      (past_key schema.key_cols col (sets_no_key-fits schema (Set k col value) h)) (find key_cmp k x) (known k)
      (fits_now (Set k col value) done)

-- a write that is done may make its edit
pub may_call : (schema : Columns) → AWriteIsOneCall schema
may_call schema limit t x write over fitting done =
    may_edit schema limit t x over write (passes (write_fits_schema schema write) fitting)
    (passes (is_done (reply_to schema.key_cols limit t x write)) done)
