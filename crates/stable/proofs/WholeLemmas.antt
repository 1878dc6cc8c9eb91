-- The columns that a table's rows fill are a table.
use Rattle.std.proofs.Common.{◌≡◌, ℕ, ◌<◌, ◌≤◌, List, [], ◌∷◌, length, map, get_or, refl, sym, ap, subst, ◌∙◌, arith, rules}
use Rattle.values.specs.Shape.{Columns, IsSchema}
use Rattle.values.specs.declared.row.Row.{Row}
use Rattle.blocks.specs.Column.{Column}
use Rattle.stable.specs.Stable.{IsStable}
use Rattle.stable.specs.Rows.{AreEven, IsKept, first_columns, row_count, rows_of}
use Rattle.stable.proofs.FaultLemmas.{no_build_fault}
use Rattle.stable.proofs.RowsLemmas.{kept, shown, width}

-- columns that all have so many values have so many rows
pub row_count_is : (columns : List Column) (n : ℕ) → 0 < length columns
    → ((col : ℕ) (d : Column) → col < length columns → length (get_or columns col d).values ≡ n) → row_count columns ≡ n
row_count_is [] n some f = absurd (omega (arith, some))
row_count_is (c ∷ columns) n some f = f 0 c (omega arith)

-- each column of a table's rows
pub record AreWhole (schema : Columns) (rows : List Row) (columns : List Column) : Type 0 where
  pub stable : IsStable (record { schema = schema; rows = rows })
  pub some : 0 < length schema.types
  pub filled : columns ≡ first_columns schema.types rows (length schema.types)

-- the columns are whole when there are as many as the schema has
module _ (schema lent : Columns) (rows : List Row) (columns : List Column) (width col : ℕ) where
  pub whole : lent ≡ schema → width ≡ length lent.types → IsSchema lent → width ≤ col → col ≤ width
      → IsStable (record { schema = schema; rows = rows }) → columns ≡ first_columns schema.types rows col
      → AreWhole schema rows columns
  whole is wide lawful least most h e = search rules

-- they show just those rows, and so are a table
module _ (schema : Columns) (rows : List Row) (columns : List Column) (h : AreWhole schema rows columns) where
  keeps : IsKept schema (length rows) columns
  keeps = kept schema rows (no_build_fault schema rows h.stable) (length rows) refl columns h.filled

  counts : row_count columns ≡ length rows
  counts = row_count_is columns (length rows) (omega (arith, h.some, width schema (length rows) columns keeps)) keeps.filled

  -- their types are the schema's
  pub all_typed : map (λ c. c.ty) columns ≡ schema.types
  all_typed = keeps.typed

  -- they are of one length
  pub all_even : AreEven columns
  all_even = λ col d lt. keeps.filled col d lt ∙ sym counts

  -- the rows that they show are these
  pub all_rows : rows_of (row_count columns) columns ≡ rows
  all_rows =
      ap (λ n. rows_of n columns) counts
      ∙ shown schema rows (no_build_fault schema rows h.stable) (length rows) refl columns h.filled

  -- and those are a table of the schema
  pub all_stable : IsStable (record { schema = schema; rows = rows_of (row_count columns) columns })
  all_stable = subst (λ (rs : List Row). IsStable (record { schema = schema; rows = rs })) (sym all_rows) h.stable
