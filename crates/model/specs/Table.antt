-- A table: a finite map from key to row.
use Rattle.std.specs.Prelude.{ℕ, Bool, ◌&&◌, IsTrue, Option, List, map, length, filter}
use Rattle.std.specs.Ordering.{eq_by_cmp, is_lt}
use Rattle.std.specs.List.{list_all}
use Rattle.values.specs.Orders.{key_cmp}
use Rattle.values.specs.Shape.{Columns, key_of, fits_schema}
use Rattle.values.specs.declared.row.Row.{Row}
use Rattle.values.specs.declared.row.Key.{Key}
use Rattle.model.specs.Maps.{find, is_sorted}

-- each row under its key, in ascending key
abbrev pub Table : Type 0
Table = List (Key × Row)

-- the rows, in ascending key
abbrev pub rows_of : Table → List Row
rows_of t = map (λ e. e.1) t

-- whether the keys ascend, and each row has the key under which it stands
abbrev pub is_keyed_table : ℕ → Table → Bool
is_keyed_table key_cols t = is_sorted key_cmp t && list_all (λ e. eq_by_cmp key_cmp e.0 (key_of key_cols e.1)) t

-- a table of the schema: each row fits it, and stands under its own key
pub record IsTable (schema : Columns) (t : Table) : Type 0 where
  pub keyed : IsTrue (is_keyed_table schema.key_cols t)
  pub fitting : IsTrue (list_all (λ e. fits_schema schema e.1) t)

-- the table of rows in ascending key
abbrev pub table_of : ℕ → List Row → Table
table_of key_cols rows = map (λ row. (key_of key_cols row, row)) rows

-- the row of the key, where the table has one
abbrev pub row_at : Table → Key → Option Row
row_at t key = find key_cmp key t

-- the number of keys of the table below this one
abbrev pub rank : Key → Table → ℕ
rank key t = length (filter (λ e. is_lt (key_cmp e.0 key)) t)
