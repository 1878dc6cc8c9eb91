-- How many rows effects leave, and how many entries they have at most.
use Rattle.std.proofs.Common.{◌≡◌, ℕ, suc, ◌+◌, ◌-◌, ◌*◌, ◌≤◌, ◌<◌, cond, not, T, Option, Some, None, is_some, is_none, option_map, [], ◌∷◌, map, length, nat_cmp, Less, Equal, Greater, is_eq, refl, sym, ap, ◌∙◌, subst, arith}
use Rattle.std.specs.Prelude.{slice_get}
use Rattle.std.specs.List.{list_all}
use Rattle.std.specs.FinMap.Entries.{below_all, length-put}
use Rattle.std.proofs.lemmas.Float.{T_from_true}
use Rattle.std.proofs.lemmas.Option.{slice_get_within}
use Rattle.std.proofs.lemmas.List.{length-map, length-append}
use Rattle.values.specs.Orders.{key_cmp, key_cmp_total}
use Rattle.values.specs.Shape.{Columns, cell_fits_schema, cell_fault_at, IsSchema}
use Rattle.values.specs.declared.value.ColumnType.{ColumnType}
use Rattle.values.specs.declared.value.Value.{Value}
use Rattle.values.specs.declared.row.Row.{Row}
use Rattle.values.specs.declared.row.Key.{Key}
use Rattle.model.specs.declared.effect.Effect.{Effect}
use Rattle.model.specs.declared.effect.Effect.TheVariants.{Ins, Del, Mod, Rep}
use Rattle.model.specs.declared.entry.Change.TheVariants as change
use Rattle.model.specs.Maps.{is_sorted, without, store, alter}
use Rattle.model.specs.Table.{Table, row_at, is_keyed_table}
use Rattle.model.specs.Effects.{Cells, Effects, set_cells, fits, row_after, all_fit, table_with, is_keyed_effect, are_keyed_effects, effect_fits_schema, AreOver}
use Rattle.model.specs.Entries.{entry_at, entries_of, canonical_entries}
use Rattle.model.specs.Places.{insert_count, delete_count}
use Rattle.model.proofs.CallerLemmas.{first, second, less, without_below, below_tied, sorted-alter, inserts_of, deletes_of, fits_other, add_up}
use Rattle.delta.proofs.CountLemmas.{insert_count-append, delete_count-append}
use Rattle.std.proofs.lemmas.Grind.{common_steps}

-- ---- what one effect does to the number of rows

length-without : (key : Key) (t : Table) → T (is_sorted key_cmp t)
    → cond (is_some (row_at t key)) 1 0 + length (without key_cmp key t) ≡ length t
length-without key [] h = refl
length-without key (e ∷ t) h =
    elim (key_cmp key e.0) as (λ r. key_cmp key e.0 ≡ r → cond (is_some (cond (is_eq r) (Some e.1) (row_at t key))) 1 0
    + length (cond (not (is_eq r)) (e ∷ without key_cmp key t) (without key_cmp key t))
    ≡ suc (length t)) [
      | Less ↦ λ p. one_more _ _ _ (length-without key t (second _ _ h))
      | Equal ↦ λ p. ap (λ xs. 1 + length xs)
          (without_below key_cmp_total key t (below_tied key_cmp key_cmp_total key e.0 t p (first _ _ h))) ∙ last (length t)
      | Greater ↦ λ p. one_more _ _ _ (length-without key t (second _ _ h))
    ] refl
  where
    one_more : (b n m : ℕ) → b + n ≡ m → b + suc n ≡ suc m
    one_more b n m p = omega arith

    last : (n : ℕ) → 1 + n ≡ suc n
    last n = omega arith

length-alter : (key : Key) (f : Effect) (t : Table) (old : Option Row) → row_at t key ≡ old → T (is_sorted key_cmp t)
    → T (fits old f) → deletes_of f + length (alter key_cmp key (row_after f) t) ≡ inserts_of f + length t
length-alter key (Ins row) t None is h fit =
    added _ _
    (length-put key_cmp key_cmp_total key row t h ∙ ap (λ (o : Option Row). cond (is_some o) (length t) (length t + 1)) is)
  where
    added : (n m : ℕ) → n ≡ m + 1 → 0 + n ≡ 1 + m
    added n m p = omega arith
length-alter key (Ins row) t (Some r) is h fit = absurd fit
length-alter key Del t None is h fit = absurd fit
length-alter key Del t (Some r) is h fit =
    gone _ _ (ap (λ (o : Option Row). cond (is_some o) 1 0 + length (without key_cmp key t)) (sym is) ∙ length-without key t h)
  where
    gone : (n m : ℕ) → 1 + n ≡ m → 1 + n ≡ 0 + m
    gone n m p = omega arith
length-alter key (Mod cells) t None is h fit = absurd fit
length-alter key (Mod cells) t (Some r) is h fit =
    (λ i. 0 + length (store key_cmp key (option_map (set_cells cells) (is i)) t))
    ∙ ap (λ n. 0 + n) (length-put key_cmp key_cmp_total key (set_cells cells r) t h
    ∙ ap (λ (o : Option Row). cond (is_some o) (length t) (length t + 1)) is)
length-alter key (Rep row) t None is h fit = absurd fit
length-alter key (Rep row) t (Some r) is h fit =
    ap (λ n. 1 + n)
    (length-put key_cmp key_cmp_total key row t h ∙ ap (λ (o : Option Row). cond (is_some o) (length t) (length t + 1)) is)

-- ---- all effects

-- a count over effects
abbrev sum_of : (Effect → ℕ) → Effects → ℕ
sum_of count [] = 0
sum_of count (e ∷ effects) = count e.1 + sum_of count effects

length-table_with : (t : Table) (x : Effects) → T (is_sorted key_cmp t) → T (is_sorted key_cmp x) → T (all_fit t x)
    → sum_of deletes_of x + length (table_with t x) ≡ sum_of inserts_of x + length t
length-table_with t [] ht h fit = refl
length-table_with t (e ∷ x) ht h fit =
    let after = alter key_cmp e.0 (row_after e.1) t in
    add_up _ _ _ _ _ _ _
    (length-table_with after x (sorted-alter key_cmp key_cmp_total e.0 (row_after e.1) t ht) (second _ _ h)
    (subst T (sym (fits_other e.0 (row_after e.1) t x (first _ _ h))) (second _ _ fit)))
    (length-alter e.0 e.1 t (row_at t e.0) refl ht (first _ _ fit))

-- ---- the entries of effects, counted

modifies_insert : (sid : ℕ) (cells : Cells) → insert_count (map (λ c. entry_at sid (change.Mod c.0 c.1)) cells) ≡ 0
modifies_insert sid [] = refl
modifies_insert sid (c ∷ cells) = modifies_insert sid cells

modifies_delete : (sid : ℕ) (cells : Cells) → delete_count (map (λ c. entry_at sid (change.Mod c.0 c.1)) cells) ≡ 0
modifies_delete sid [] = refl
modifies_delete sid (c ∷ cells) = modifies_delete sid cells

insert_count-entries_of : (sid : ℕ) (key : Key) (f : Effect) → insert_count (entries_of sid key f) ≡ inserts_of f
insert_count-entries_of sid key (Ins row) = refl
insert_count-entries_of sid key Del = refl
insert_count-entries_of sid key (Mod cells) = modifies_insert sid cells
insert_count-entries_of sid key (Rep row) = refl

delete_count-entries_of : (sid : ℕ) (key : Key) (f : Effect) → delete_count (entries_of sid key f) ≡ deletes_of f
delete_count-entries_of sid key (Ins row) = refl
delete_count-entries_of sid key Del = refl
delete_count-entries_of sid key (Mod cells) = modifies_delete sid cells
delete_count-entries_of sid key (Rep row) = refl

insert_count-canonical_entries : (t : Table) (x : Effects) → insert_count (canonical_entries t x) ≡ sum_of inserts_of x
insert_count-canonical_entries t [] = refl
insert_count-canonical_entries t (e ∷ x) = omega (arith, insert_count-canonical_entries t x, insert_count-append, insert_count-entries_of)

delete_count-canonical_entries : (t : Table) (x : Effects) → delete_count (canonical_entries t x) ≡ sum_of deletes_of x
delete_count-canonical_entries t [] = refl
delete_count-canonical_entries t (e ∷ x) = omega (arith, delete_count-canonical_entries t x, delete_count-append, delete_count-entries_of)

-- the inserts less the deletes are the rows that come
pub inserts_less_deletes : (t : Table) (x : Effects) → T (is_sorted key_cmp t) → T (is_sorted key_cmp x) → T (all_fit t x)
    → delete_count (canonical_entries t x) + length (table_with t x) ≡ insert_count (canonical_entries t x) + length t
inserts_less_deletes t x ht h fit = omega (arith, delete_count-canonical_entries, length-table_with, insert_count-canonical_entries)

-- ---- how many entries there are at most

-- an effect on a row that is there
abbrev on_row : Effect → ℕ
on_row (Ins row) = 0
on_row Del = 1
on_row (Mod cells) = 1
on_row (Rep row) = 1

-- no more of them than rows
rows_changed : (t : Table) (x : Effects) → T (is_sorted key_cmp t) → T (is_sorted key_cmp x) → T (all_fit t x) → sum_of on_row x ≤ length t
rows_changed t [] ht h fit = omega arith
rows_changed t (e ∷ x) ht h fit =
    let others = second (fits (row_at t e.0) e.1) _ fit in
    let without_it : T (all_fit (without key_cmp e.0 t) x) = subst T (sym (fits_other e.0 (λ _. None) t x (first _ _ h))) others in
    by e.1 (row_at t e.0) refl (first (fits (row_at t e.0) e.1) _ fit)
    (rows_changed t x ht (second _ _ h) others)
    (rows_changed (without key_cmp e.0 t) x (sorted-alter key_cmp key_cmp_total e.0 (λ _. None) t ht) (second _ _ h) without_it)
  where
    fewer : (r : Row) → row_at t e.0 ≡ Some r → sum_of on_row x ≤ length (without key_cmp e.0 t) → 1 + sum_of on_row x ≤ length t
    fewer r is rest =
        let one : 1 + length (without key_cmp e.0 t) ≡ length t =
        ap (λ (o : Option Row). cond (is_some o) 1 0 + length (without key_cmp e.0 t)) (sym is) ∙ length-without e.0 t ht in
        omega (arith, rest, one)

    by : (f : Effect) (old : Option Row) → row_at t e.0 ≡ old → T (fits old f) → sum_of on_row x ≤ length t
        → sum_of on_row x ≤ length (without key_cmp e.0 t) → on_row f + sum_of on_row x ≤ length t
    by (Ins row) old is fit_here all rest = omega (arith, all)
    by Del None is fit_here all rest = absurd fit_here
    by Del (Some r) is fit_here all rest = fewer r is rest
    by (Mod cells) None is fit_here all rest = absurd fit_here
    by (Mod cells) (Some r) is fit_here all rest = fewer r is rest
    by (Rep row) None is fit_here all rest = absurd fit_here
    by (Rep row) (Some r) is fit_here all rest = fewer r is rest

-- the columns of cells that may be set are below the width
column_within : (schema : Columns) (found : Option ColumnType) (col : ℕ) (value : Value) → slice_get schema.types col ≡ found
    → T (is_none (cell_fault_at found schema.key_cols col value)) → col < length schema.types
column_within schema None col value is fits_here = absurd fits_here
column_within schema (Some type) col value is fits_here = slice_get_within schema.types col type is

-- and ascend, so that there are no more of them
cells_within : (schema : Columns) (low : ℕ) (cells : Cells) → T (below_all nat_cmp low cells) → T (is_sorted nat_cmp cells)
    → T (list_all (λ c. cell_fits_schema schema c.0 c.1) cells) → length cells ≤ length schema.types - suc low
cells_within schema low [] below ascend fit = omega arith
cells_within schema low (c ∷ cells) below ascend fit = grind (arith, common_steps, cells_within schema c.0 cells (first (below_all nat_cmp c.0 cells) _ ascend) (second (below_all nat_cmp c.0 cells) _ ascend) (second (cell_fits_schema schema c.0 c.1) _ fit), less, nat_cmp, first, column_within, second)

cells_few : (schema : Columns) (cells : Cells) → T (is_sorted nat_cmp cells)
    → T (list_all (λ c. cell_fits_schema schema c.0 c.1) cells) → length cells ≤ length schema.types
cells_few schema [] ascend fit = omega arith
cells_few schema (c ∷ cells) ascend fit =
    let within = column_within schema (slice_get schema.types c.0) c.0 c.1 refl (first (cell_fits_schema schema c.0 c.1) _ fit) in
    let rest =
    cells_within schema c.0 cells (first (below_all nat_cmp c.0 cells) _ ascend)
    (second (below_all nat_cmp c.0 cells) _ ascend) (second (cell_fits_schema schema c.0 c.1) _ fit) in
    omega (arith, within, rest)

-- an effect on a row that is there has an entry for each column at most, and an insert has one more
effect_few : (schema : Columns) (sid : ℕ) (key : Key) (f : Effect) → length schema.types ≤ 32
    → T (is_keyed_effect schema.key_cols key f) → T (effect_fits_schema schema f)
    → length (entries_of sid key f) ≤ inserts_of f + 32 * on_row f
effect_few schema sid key (Ins row) narrow keyed fit = omega arith
effect_few schema sid key Del narrow keyed fit = omega arith
effect_few schema sid key (Mod cells) narrow keyed fit = grind (arith, common_steps, first, nat_cmp, second, cells_few, length-map)
effect_few schema sid key (Rep row) narrow keyed fit = omega arith

entries_few : (schema : Columns) (t : Table) (x : Effects) → length schema.types ≤ 32
    → T (list_all (λ e. is_keyed_effect schema.key_cols e.0 e.1) x) → T (list_all (λ e. effect_fits_schema schema e.1) x)
    → length (canonical_entries t x) ≤ sum_of inserts_of x + 32 * sum_of on_row x
entries_few schema t [] narrow keyed fit = omega arith
entries_few schema t (e ∷ x) narrow keyed fit = grind (arith, common_steps, entries_few schema t x narrow (second (is_keyed_effect schema.key_cols e.0 e.1) _ keyed) (second (effect_fits_schema schema e.1) _ fit), effect_few, first, second, length-append)

deletes_few : (x : Effects) → sum_of deletes_of x ≤ sum_of on_row x
deletes_few [] = omega arith
deletes_few (e ∷ x) = grind (arith, common_steps, deletes_few x, deletes_of)

-- entries are no more than the rows of the image, and as many as columns and one for each row of the table
pub length-entries_over : (schema : Columns) (t : Table) (x : Effects) → IsSchema schema → AreOver schema t x
    → length (canonical_entries t x) ≤ length (table_with t x) + 33 * length t
length-entries_over schema t x lawful h =
    let keyed = T_from_true (are_keyed_effects schema.key_cols x) h.effects_are.keyed in
    let table = T_from_true (is_keyed_table schema.key_cols t) h.table.keyed in
    let fitting = T_from_true (list_all (λ e. effect_fits_schema schema e.1) x) h.effects_are.fitting in
    let fit = T_from_true (all_fit t x) h.fit in
    let x_sorted = first (is_sorted key_cmp x) _ keyed in
    let t_sorted = first (is_sorted key_cmp t) _ table in
    let narrow : length schema.types ≤ 32 = lawful.narrow in
    let entries = entries_few schema t x narrow (second (is_sorted key_cmp x) _ keyed) fitting in
    let rows = rows_changed t x t_sorted x_sorted fit in
    let moved = length-table_with t x t_sorted x_sorted fit in
    omega (arith, entries, rows, moved, deletes_few x)

-- inserts are no more than the rows of the image
pub inserts_few : (schema : Columns) (t : Table) (x : Effects) → AreOver schema t x →
    insert_count (canonical_entries t x) ≤ length (table_with t x)
inserts_few schema t x h =
    let keyed = T_from_true (are_keyed_effects schema.key_cols x) h.effects_are.keyed in
    let table = T_from_true (is_keyed_table schema.key_cols t) h.table.keyed in
    let fit = T_from_true (all_fit t x) h.fit in
    let x_sorted = first (is_sorted key_cmp x) _ keyed in
    let t_sorted = first (is_sorted key_cmp t) _ table in
    let rows = rows_changed t x t_sorted x_sorted fit in
    let moved = length-table_with t x t_sorted x_sorted fit in
    omega (arith, rows, moved, deletes_few x, insert_count-canonical_entries t x)

-- and as many over any table
pub insert_count-any : (t u : Table) (x : Effects) → insert_count (canonical_entries t x) ≡ insert_count (canonical_entries u x)
insert_count-any t u x = insert_count-canonical_entries t x ∙ sym (insert_count-canonical_entries u x)

-- the rows after effects, by the counts of their entries
pub rows_after : (schema : Columns) (t : Table) (x : Effects) → AreOver schema t x →
    delete_count (canonical_entries t x) + length (table_with t x) ≡ insert_count (canonical_entries t x) + length t
rows_after schema t x h = grind (arith, common_steps, inserts_less_deletes, first)
