-- A table whose key is one column of numbers: keys compare as the numbers do.
use Rattle.std.proofs.Common.{◌≡◌, ℕ, ℤ, ◌<◌, ◌≤◌, true, false, T, List, [], ◌∷◌, length, get_or, sym, ap, ◌∙◌, arith}
use Rattle.std.specs.List.Sorted.{IsPartitionedBy, IsPartitionPoint}
use Rattle.std.proofs.lemmas.List.{length-map, get_or_default}
use Rattle.values.specs.Orders.{key_cmp}
use Rattle.values.specs.Shape.{Columns}
use Rattle.values.specs.declared.row.Row.{Row}
use Rattle.values.specs.declared.value.Value.{Value}
use Rattle.values.specs.declared.value.Value.TheVariants.{Int, Bool as Truth}
use Rattle.blocks.specs.Column.{Column}
use Rattle.model.specs.Maps.{is_sorted}
use Rattle.model.specs.Table.{rank, table_of}
use Rattle.stable.specs.Column.{is_below}
use Rattle.stable.specs.Rows.{IsKept, column_values, rows_of}
use Rattle.stable.proofs.RowsLemmas.{length_rows, row_width}
use Rattle.stable.proofs.RankLemmas.{is_below_key, parted, rank-point}
use Rattle.std.proofs.lemmas.Grind.{common_steps}

module _ (number : ℤ) (rows : List Row) (filled : (k : ℕ) (d : Row) → k < length rows → 0 < length (get_or rows k d)) where
  below_at : (k : ℕ) (d : Value) → k < length rows
      → is_below number (get_or (column_values 0 rows) k d) ≡ is_below_key 1 (Int number ∷ []) (get_or rows k [])
  below_at k d lt = grind (arith, common_steps)

  pub as_many : length (column_values 0 rows) ≡ length rows
  as_many = length-map rows (λ (row : Row). get_or row 0 (Truth false))

  -- so the first column is parted by the number
  pub column_parted : T (is_sorted key_cmp (table_of 1 rows)) → IsPartitionedBy (is_below number) (column_values 0 rows)
  column_parted sorted i j d le lt passes =
      let within : j < length rows = omega (arith, lt, as_many) in
      below_at i d (omega (arith, le, within))
      ∙ parted 1 (Int number ∷ []) rows sorted i j [] le within (sym (below_at j d within) ∙ passes)

  -- and the number's place there is the key's
  pub rank-column : (n : ℕ) → n ≤ length rows
      → IsPartitionPoint (λ v. is_below number v ≡ true) (λ v. is_below number v ≡ false) (column_values 0 rows) n
      → n ≡ rank (Int number ∷ []) (table_of 1 rows)
  rank-column n le point =
      rank-point 1 (Int number ∷ []) rows n le (
        (λ k d low lt. at k d (omega (arith, lt, le)) ∙ point.0 k (Truth false) low lt),
        (λ k d low lt. at k d lt ∙ point.1 k (Truth false) low (omega (arith, lt, as_many))),
      )
    where
      at : (k : ℕ) (d : Row) → k < length rows
          → is_below_key 1 (Int number ∷ []) (get_or rows k d) ≡ is_below number (get_or (column_values 0 rows) k (Truth false))
      at k d lt = ap (is_below_key 1 (Int number ∷ [])) (get_or_default rows k d [] lt) ∙ sym (below_at k (Truth false) lt)

-- a row of a table with a column has a cell
pub rows_filled : (schema : Columns) (count : ℕ) (columns : List Column) → IsKept schema count columns → 0 < length schema.types
    → (k : ℕ) (d : Row) → k < length (rows_of count columns) → 0 < length (get_or (rows_of count columns) k d)
rows_filled schema count columns h some k d lt =
    let within : k < count = omega (arith, lt, length_rows count columns) in
    let swap = ap (λ (row : Row). length row) (get_or_default (rows_of count columns) k d [] lt) in
    omega (arith, swap, row_width schema count columns h k within, some)
