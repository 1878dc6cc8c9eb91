-- A table as std's finite map: the list of entries is that map's.
use Rattle.std.proofs.Common.{◌≡◌, T, Some, map, cond, sym, ap, ◌∙◌, arith}
use Rattle.std.specs.Ordering.{eq_by_cmp}
use Rattle.std.specs.FinMap.Entries.{is_sorted-put, find-put}
use Rattle.values.specs.Orders.{key_cmp, key_cmp_total, key_cmp-IsAntisymmetric}
use Rattle.values.specs.declared.row.Row.{Row}
use Rattle.values.specs.declared.row.Key.{Key}
use Rattle.model.specs.Maps.{find, put, is_sorted}
use Rattle.model.specs.Table.{Table, rows_of, row_at}
use Rattle.model.specs.Effects.{Effects, row_after, table_with}
use Rattle.model.proofs.MapsLemmas.{changed_by}
use Rattle.model.proofs.CompositionLemmas.{row_at-table_with, sorted-table_with}
use Rattle.std.specs.FinMap as finite
use Rattle.std.proofs.lemmas.Grind.{common_steps}

-- the finite map of a table
unfoldable pub map_of : Table → finite.FinMap key_cmp Row
map_of t = finite.from_sorted t

pub entries-map_of : (t : Table) → T (is_sorted key_cmp t) → finite.entries (map_of t) ≡ t
unfolding map_of
entries-map_of t h = finite.entries-from_sorted key_cmp t h

pub get-map_of : (t : Table) (key : Key) → T (is_sorted key_cmp t) → finite.get (map_of t) key ≡ row_at t key
unfolding map_of
get-map_of t key h = finite.get-from_sorted key_cmp t key h

pub values-map_of : (t : Table) → T (is_sorted key_cmp t) → finite.values (map_of t) ≡ rows_of t
values-map_of t h = ap (map (λ e. e.1)) (entries-map_of t h)

pub insert-map_of : (t : Table) (key : Key) (row : Row) → T (is_sorted key_cmp t)
    → map_of (put key_cmp key row t) ≡ finite.insert (map_of t) key row
insert-map_of t key row h =
    finite.same_map key_cmp_total key_cmp-IsAntisymmetric _ _
    (λ q. get-map_of (put key_cmp key row t) q (is_sorted-put key_cmp key_cmp_total key row t h)
    ∙ find-put key_cmp key_cmp_total q key row t
    ∙ sym (finite.get-insert key_cmp_total (map_of t) key row q ∙ ap (cond (eq_by_cmp key_cmp q key) (Some row)) (get-map_of t q h)))

-- applying effects changes the map at each key by the effect on it
pub get-table_with : (t : Table) (effects : Effects) (key : Key) → T (is_sorted key_cmp t) → T (is_sorted key_cmp effects)
    → finite.get (map_of (table_with t effects)) key ≡ changed_by row_after (find key_cmp key effects) (finite.get (map_of t) key)
get-table_with t effects key ht h = grind (arith, common_steps, get-map_of, sorted-table_with, row_at-table_with, changed_by)
