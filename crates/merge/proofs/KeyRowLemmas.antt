-- The row of a key in the image of a layer.
use Rattle.std.proofs.Common.{◌≡◌, ℕ, suc, ◌+◌, ◌<◌, Bool, true, false, cond, not, ◌&&◌, T, Option, Some, None, is_some, List, [], rules}
use Rattle.std.proofs.Common.{◌∷◌, ◌++◌, map, Less, Equal, Greater, is_lt, is_eq, refl, sym, ap, ◌∙◌, subst, arith}
use Rattle.std.specs.Prelude.{◌==◌, ◌||◌, slice_get, get_or}
use Rattle.std.specs.FinMap.Entries.{below_all}
use Rattle.std.proofs.lemmas.Bool.Decides.{nat_tests}
use Rattle.std.proofs.lemmas.List.{append-nil, map-append}
use Rattle.std.proofs.lemmas.List.Elements.{filter-append}
use Rattle.std.proofs.lemmas.Option.{get_or_from_slice_get}
use Rattle.values.specs.Orders.{key_cmp, key_cmp_total, key_cmp-IsAntisymmetric}
use Rattle.values.specs.Shape.{Columns}
use Rattle.values.specs.declared.row.Row.{Row}
use Rattle.values.specs.declared.row.Key.{Key}
use Rattle.model.specs.declared.entry.Entry.{Entry}
use Rattle.model.specs.declared.entry.Change.{Change}
use Rattle.model.specs.declared.entry.Change.TheVariants.{Ins, Del, Mod}
use Rattle.model.specs.declared.effect.Effect.{Effect}
use Rattle.model.specs.declared.effect.Effect.TheVariants as effect
use Rattle.model.specs.Maps.{find, is_sorted}
use Rattle.model.specs.Table.{Table, rows_of, row_at, rank}
use Rattle.model.specs.Effects.{Cells, Effects, AreOver, fits, all_fit, row_after, set_cells, table_with}
use Rattle.model.specs.Entries.{entry_at, entries_of, canonical_entries}
use Rattle.model.proofs.CallerLemmas.{first, second, changed_by, find_below, find_past, below_less, below_tied, turn_greater}
use Rattle.model.proofs.CallerLemmas.{rank-lt, rank_below, one_if, rank-cons, row_at-table_with}
use Rattle.delta.specs.Search.{insert_cmp, stands_before, IsSplit}
use Rattle.delta.specs.Lookups.{inserted_row}
use Rattle.delta.specs.Laws.{row_inserted}
use Rattle.delta.specs.Tree.{Tree}
use Rattle.delta.specs.BySid.{base_change, is_deleted}
use Rattle.delta.specs.declared.by_sid.BaseChange.{BaseChange}
use Rattle.delta.specs.declared.by_sid.BaseChange.TheVariants.{Kept, Modified, Deleted}
use Rattle.delta.proofs.CallerLemmas.{base_change-effect, finds_effect, fitting_effects, sorted_effects}
use Rattle.merge.specs.Image.{IsLayer}
use Rattle.merge.specs.KeyRow.{row_above}
use Rattle.merge.specs.View.{modified_cells, cells_at}
use Rattle.delta.proofs.Words.{effect_on_base}
use Rattle.std.proofs.lemmas.Grind.{common_steps}

-- ---- the cells that canonical entries change

modified_cells-append : (xs ys : List Change) → modified_cells (xs ++ ys) ≡ modified_cells xs ++ modified_cells ys
modified_cells-append [] ys = refl
modified_cells-append (Ins row ∷ xs) ys = modified_cells-append xs ys
modified_cells-append (Del key ∷ xs) ys = modified_cells-append xs ys
modified_cells-append (Mod col value ∷ xs) ys = ap (λ cells. (col, value) ∷ cells) (modified_cells-append xs ys)

cells_at-append : (sid : ℕ) (xs ys : List Entry) → cells_at sid (xs ++ ys) ≡ cells_at sid xs ++ cells_at sid ys
cells_at-append sid xs ys = grind (arith, common_steps, filter-append, map-append, modified_cells-append)

-- the cells that an effect changes of a row that stays
abbrev effect_cells : Effect → Cells
effect_cells (effect.Ins row) = []
effect_cells effect.Del = []
effect_cells (effect.Mod cells) = cells
effect_cells (effect.Rep row) = []

abbrev cells_of : Option Effect → Cells
cells_of None = []
cells_of (Some f) = effect_cells f

module _ (sid n : ℕ) where
  cells_at-cells : (cells : Cells) → cells_at sid (map (λ c. entry_at n (Mod c.0 c.1)) cells) ≡ cond (n == sid) cells []
  cells_at-cells [] = elim (n == sid) as (λ b. ◌≡◌ {A = Cells} [] (cond b [] [])) [ true ↦ refl | false ↦ refl ]
  cells_at-cells (c ∷ cells) = grind (arith, common_steps, cells_at-cells cells)

  cells_at-effect : (k : Key) (f : Effect) → cells_at sid (entries_of n k f) ≡ cond (n == sid) (effect_cells f) []
  cells_at-effect k (effect.Ins row) = search rules
  cells_at-effect k effect.Del = search rules
  cells_at-effect k (effect.Mod cells) = cells_at-cells cells
  cells_at-effect k (effect.Rep row) = search rules

same_sid : (n m : ℕ) → n ≡ m → (n == m) ≡ true
same_sid n m e = grind (arith, nat_tests)

later_sid : (n m : ℕ) → m < n → (n == m) ≡ false
later_sid n m lt = grind (arith, nat_tests)

earlier_sid : (n m : ℕ) → n < m → (n == m) ≡ false
earlier_sid n m lt = grind (arith, nat_tests)

module _ (t : Table) (key : Key) where
  -- a smaller key's effect changes no cell at this key's place
  smaller_cells : (k : Key) (f : Effect) → key_cmp k key ≡ Less → T (fits (row_at t k) f)
      → cells_at (rank key t) (entries_of (rank k t) k f) ≡ []
  smaller_cells k f below fit = cells_at-effect (rank key t) (rank k t) k f ∙ by f fit
    where
      none : (b : Bool) → ◌≡◌ {A = Cells} (cond b [] []) []
      none true = refl
      none false = refl

      by : (f : Effect) → T (fits (row_at t k) f) → cond (rank k t == rank key t) (effect_cells f) [] ≡ []
      by (effect.Ins row) fit = none (rank k t == rank key t)
      by effect.Del fit = none (rank k t == rank key t)
      by (effect.Mod cells) fit = ap (λ b. cond b cells []) (earlier_sid (rank k t) (rank key t) (rank-lt k key t below fit))
      by (effect.Rep row) fit = none (rank k t == rank key t)

  -- at the place of a key that is there the entries change the cells that its effect does
  cells_at-canonical_entries : T (is_some (row_at t key)) → (x : Effects) → T (is_sorted key_cmp x) → T (all_fit t x)
      → cells_at (rank key t) (canonical_entries t x) ≡ cells_of (find key_cmp key x)
  cells_at-canonical_entries there [] sorted fit = refl
  cells_at-canonical_entries there (e ∷ x) sorted fit =
      let own : List Entry = entries_of (rank e.0 t) e.0 e.1 in
      let after : T (below_all key_cmp e.0 x) = first (below_all key_cmp e.0 x) _ sorted in
      let rest = cells_at-canonical_entries there x (second (below_all key_cmp e.0 x) _ sorted) (second (fits (row_at t e.0) e.1) _ fit) in
      cells_at-append (rank key t) own (canonical_entries t x)
      ∙ elim (key_cmp key e.0) as (λ r. key_cmp key e.0 ≡ r → cells_at (rank key t) own ++ cells_at (rank key t)
      (canonical_entries t x) ≡ cells_of (find key_cmp key (e ∷ x))) [
        | Less ↦ λ p.
            let none = find_below key_cmp_total key x (below_less key_cmp_total key e.0 x p after) in
            let absent : find key_cmp key (e ∷ x) ≡ None = ap (λ r. cond (is_eq r) (Some e.1) (find key_cmp key x)) p ∙ none in
            let past = cells_at-effect (rank key t) (rank e.0 t) e.0 e.1
            ∙ ap (λ b. cond b (effect_cells e.1) []) (later_sid (rank e.0 t) (rank key t) (rank-lt key e.0 t p there)) in
            (λ i. past i ++ (rest ∙ ap cells_of none) i) ∙ ap cells_of (sym absent)
        | Equal ↦ λ p.
            let same : key ≡ e.0 = key_cmp-IsAntisymmetric key e.0 p in
            let none = find_below key_cmp_total key x (below_tied key_cmp key_cmp_total key e.0 x p after) in
            let here : find key_cmp key (e ∷ x) ≡ Some e.1 = ap (λ r. cond (is_eq r) (Some e.1) (find key_cmp key x)) p in
            let its = cells_at-effect (rank key t) (rank e.0 t) e.0 e.1
            ∙ ap (λ b. cond b (effect_cells e.1) []) (same_sid (rank e.0 t) (rank key t) (ap (λ (k : Key). rank k t) (sym same))) in
            (λ i. its i ++ (rest ∙ ap cells_of none) i) ∙ append-nil (effect_cells e.1) ∙ ap cells_of (sym here)
        | Greater ↦ λ p.
            let smaller = smaller_cells e.0 e.1 (turn_greater key_cmp_total key e.0 p) (first (fits (row_at t e.0) e.1) _ fit) in
            (λ i. smaller i ++ rest i) ∙ ap cells_of (sym (find_past key_cmp key e x p))
      ] refl

-- ---- the row of a key over a layer

nothing_above : (sid : ℕ) (es : List Entry) (change : BaseChange) → row_above sid es None None change ≡ None
nothing_above sid es Kept = refl
nothing_above sid es Deleted = refl
nothing_above sid es Modified = refl

module _ (schema : Columns) (t : Table) (x : Effects) (h : AreOver schema t x) (key : Key) (n : ℕ)
    (split : IsSplit (stands_before (insert_cmp schema.key_cols key) (rank key t)) (canonical_entries t x) n) where
  abbrev es : List Entry
  es = canonical_entries t x

  abbrev change : BaseChange
  change = base_change (rank key t) (slice_get es n)

  there_if : (row : Row) → row_at t key ≡ Some row → T (is_some (row_at t key))
  there_if row is = subst (λ (o : Option Row). T (is_some o)) (sym is) tt

  change_is : (f : Option Effect) → find key_cmp key x ≡ f → row_inserted f ≡ None → (row : Row) → row_at t key ≡ Some row
      → change ≡ effect_on_base f
  change_is f is none row at = base_change-effect schema t x h key n split (there_if row at) (ap row_inserted is ∙ none)
      ∙ ap effect_on_base is

  by_effect : (f : Option Effect) → find key_cmp key x ≡ f → (old : Option Row) → row_at t key ≡ old
      → row_above (rank key t) es old (row_inserted f) change ≡ changed_by row_after f old
  by_effect None is None at = nothing_above (rank key t) es change
  by_effect None is (Some row) at = ap (row_above (rank key t) es (Some row) None) (change_is None is refl row at)
  by_effect (Some (effect.Ins new)) is old at = refl
  by_effect (Some effect.Del) is None at = nothing_above (rank key t) es change
  by_effect (Some effect.Del) is (Some row) at = ap (row_above (rank key t) es (Some row) None) (change_is (Some effect.Del) is refl row at)
  by_effect (Some (effect.Mod cells)) is None at = nothing_above (rank key t) es change
  by_effect (Some (effect.Mod cells)) is (Some row) at =
      ap (row_above (rank key t) es (Some row) None) (change_is (Some (effect.Mod cells)) is refl row at)
      ∙ ap (λ (cs : Cells). Some (set_cells cs row)) (cells_at-canonical_entries t key (there_if row at) x
      (sorted_effects schema t x h key) (fitting_effects schema t x h key) ∙ ap cells_of is)
  by_effect (Some (effect.Rep new)) is old at = refl

  row_above-table_with : row_above (rank key t) es (row_at t key) (inserted_row schema.key_cols (rank key t) key es) change ≡ row_at
      (table_with t x) key
  row_above-table_with = grind (arith, common_steps, finds_effect, by_effect, row_at-table_with, sorted_effects)

pub layer_row : (schema : Columns) (t : Table) (tree : Tree) (h : IsLayer schema t tree) (key : Key) (r n : ℕ)
    (below inserted : Option Row) (made : BaseChange) → r ≡ rank key t
    → IsSplit (stands_before (insert_cmp tree.key_cols key) r) tree.entries n → below ≡ row_at t key
    → inserted ≡ inserted_row tree.key_cols r key tree.entries → made ≡ base_change r (slice_get tree.entries n)
    → row_above r tree.entries below inserted made ≡ row_at (table_with t h.effects) key
layer_row schema t tree h key r n below inserted made place split below_is inserted_is made_is =
    let split' : IsSplit (stands_before (insert_cmp schema.key_cols key) (rank key t)) (canonical_entries t h.effects) n =
    subst (λ es. IsSplit (stands_before (insert_cmp schema.key_cols key) (rank key t)) es n) h.entries
    (subst (λ k. IsSplit (stands_before (insert_cmp k key) (rank key t)) tree.entries n) h.key_cols
    (subst (λ m. IsSplit (stands_before (insert_cmp tree.key_cols key) m) tree.entries n) place split)) in
    (λ i. row_above r tree.entries (below_is i) (inserted_is i) (made_is i))
    ∙ (λ i. row_above (place i) (h.entries i) (row_at t key) (inserted_row (h.key_cols i) (place i) key (h.entries i))
    (base_change (place i) (slice_get (h.entries i) n)))
    ∙ row_above-table_with schema t h.effects h.over key n split'

is_some-row_above : (sid : ℕ) (listed : List Entry) (below inserted : Option Row) (made : BaseChange)
    → is_some (row_above sid listed below inserted made) ≡ (is_some inserted || (is_some below && not (is_deleted made)))
is_some-row_above sid listed below (Some row) made = refl
is_some-row_above sid listed None None Kept = refl
is_some-row_above sid listed None None Deleted = refl
is_some-row_above sid listed None None Modified = refl
is_some-row_above sid listed (Some row) None Kept = refl
is_some-row_above sid listed (Some row) None Deleted = refl
is_some-row_above sid listed (Some row) None Modified = refl

-- so whether the image of a layer has the key
pub layer_there : (schema : Columns) (t : Table) (tree : Tree) (h : IsLayer schema t tree) (key : Key) (r n : ℕ) (there found : Bool)
    (made : BaseChange) → r ≡ rank key t
    → IsSplit (stands_before (insert_cmp tree.key_cols key) r) tree.entries n → there ≡ is_some (row_at t key)
    → found ≡ is_some (inserted_row tree.key_cols r key tree.entries) → made ≡ base_change r (slice_get tree.entries n)
    → (found || (there && not (is_deleted made))) ≡ is_some (row_at (table_with t h.effects) key)
layer_there schema t tree h key r n there found made place split there_is found_is made_is =
    (λ i. found_is i || (there_is i && not (is_deleted made)))
    ∙ sym (is_some-row_above r tree.entries (row_at t key) (inserted_row tree.key_cols r key tree.entries) made)
    ∙ ap is_some (layer_row schema t tree h key r n (row_at t key) (inserted_row tree.key_cols r key tree.entries) made place split refl
    refl made_is)

-- ---- the row of a key in a table

-- the row of a key that is there stands at the key's rank
pub row_at-rank : (key : Key) (t : Table) → T (is_sorted key_cmp t) → T (is_some (row_at t key))
    → slice_get (rows_of t) (rank key t) ≡ row_at t key
row_at-rank key [] h there = absurd there
row_at-rank key (e ∷ t) h there =
    let after : T (below_all key_cmp e.0 t) = first (below_all key_cmp e.0 t) _ h in
    elim (key_cmp key e.0) as (λ r. key_cmp key e.0 ≡ r → T (is_some (cond (is_eq r) (Some e.1) (row_at t key)))
    → slice_get (rows_of (e ∷ t)) (rank key (e ∷ t)) ≡ cond (is_eq r) (Some e.1) (row_at t key)) [
      | Less ↦ λ p g.
          let above = below_less key_cmp_total key e.0 t p after in
          absurd (subst T (ap is_some (find_below key_cmp_total key t above)) g)
      | Equal ↦ λ p g.
          let same : key ≡ e.0 = key_cmp-IsAntisymmetric key e.0 p in
          let here : key_cmp e.0 key ≡ Equal = ap (λ (k : Key). key_cmp e.0 k) same ∙ sym (ap (λ (k : Key). key_cmp k e.0) same) ∙ p in
          let none : rank key t ≡ 0 = rank_below key t (subst (λ (k : Key). T (below_all key_cmp k t)) (sym same) after) in
          let first_is : rank key (e ∷ t) ≡ 0 = rank-cons key e t ∙ (λ i. one_if (is_lt (here i)) + none i) in
          ap (slice_get (rows_of (e ∷ t))) first_is
      | Greater ↦ λ p g.
          let less_is : key_cmp e.0 key ≡ Less = turn_greater key_cmp_total key e.0 p in
          let next : rank key (e ∷ t) ≡ suc (rank key t) = rank-cons key e t ∙ ap (λ r. one_if (is_lt r) + rank key t) less_is
          ∙ one_more (rank key t) in
          ap (slice_get (rows_of (e ∷ t))) next ∙ row_at-rank key t (second (below_all key_cmp e.0 t) _ h) g
    ] refl there
  where
    one_more : (n : ℕ) → 1 + n ≡ suc n
    one_more n = omega arith

-- so the row at that place is the row of the key
pub get_or-rank : (key : Key) (t : Table) (rows : List Row) (r : ℕ) → rows ≡ rows_of t → r ≡ rank key t → T (is_sorted key_cmp t)
    → T (is_some (row_at t key)) → Some (get_or rows r []) ≡ row_at t key
get_or-rank key t rows r rows_are place sorted there = by (row_at t key) refl there
  where
    at : slice_get rows r ≡ row_at t key
    at = (λ i. slice_get (rows_are i) (place i)) ∙ row_at-rank key t sorted there

    by : (o : Option Row) → row_at t key ≡ o → T (is_some o) → Some (get_or rows r []) ≡ o
    by None is some = absurd some
    by (Some row) is some = ap (λ (x : Row). Some x) (get_or_from_slice_get rows r row [] (at ∙ is))
