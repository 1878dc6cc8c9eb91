-- What was read into columns, and put in order, is the table of the text.
use Rattle.std.proofs.Common.{◌≡◌, ◌∙◌, ◌≤◌, ◌∷◌, ℕ, List, length, None, Ok, sym, ap, subst, arith}
use Rattle.std.specs.List.Sorted.{IsPermutation}
use Rattle.std.proofs.lemmas.List.{length-map}
use Rattle.values.specs.Shape.{Columns, IsSchema}
use Rattle.values.specs.declared.limits.TheConstants.{MAX_ROWS}
use Rattle.values.specs.declared.row.Row.{Row}
use Rattle.values.specs.declared.value.ColumnType.{ColumnType}
use Rattle.blocks.specs.Column.{Column}
use Rattle.stable.specs.Rows.{AreEven, row_count, rows_of}
use Rattle.stable.specs.Stable.{IsStable}
use Rattle.stable.proofs.CallerLemmas.{length_rows, row_count_is}
use Rattle.inputs.specs.Filling.{rows_in, types_in}
use Rattle.inputs.specs.Header.{schema_of}
use Rattle.inputs.specs.Input.{table_of, numbered_rows, first_repeat, IsAscending, IsTableOf}
use Rattle.inputs.specs.Reading.{Fields, AreRecordsOf}
use Rattle.inputs.proofs.FillingLemmas.{AreLong, rows_in-alone}
use Rattle.inputs.proofs.FittingLemmas.{table_of-table}
use Rattle.inputs.proofs.TableLemmas.{table_of-ok}

-- columns of a schema, each with so many values
module _ (schema : Columns) (lawful : IsSchema schema) (count : ℕ) (columns : List Column)
    (typed : types_in columns ≡ schema.types) (long : AreLong count columns) where
  pub columns-width : length columns ≡ length schema.types
  columns-width = sym (length-map columns (λ (c : Column). c.ty)) ∙ ap (λ (types : List ColumnType). length types) typed

  pub columns-count : row_count columns ≡ count
  columns-count = row_count_is columns count (omega (arith, columns-width, lawful.keyed, lawful.key_within)) long

  pub columns-even : AreEven columns
  columns-even col d lt = long col d lt ∙ sym columns-count

module _ (text : List ℕ) (header : Fields) (read : List Fields) (schema : Columns) (columns sorted : List Column) (count : ℕ)
    (whole : AreRecordsOf text (header ∷ read)) (named : schema_of header ≡ Ok schema)
    (so : numbered_rows schema.types 2 read ≡ Ok (rows_in count columns))
    (distinct : first_repeat schema.key_cols (rows_in count columns) ≡ None)
    (each_once : IsPermutation (rows_of count columns) (rows_of count sorted))
    (ascending : IsAscending schema.key_cols (rows_of count sorted)) where
  told : table_of (header ∷ read) ≡ Ok (schema, rows_of count columns)
  told =
      table_of-ok header read schema (rows_in count columns) named so distinct
      ∙ ap (λ (rows : List Row). Ok (schema, rows)) (rows_in-alone count columns)

  pub loaded-table : (rows : ℕ) → rows ≡ count → IsTableOf text schema (rows_of rows sorted)
  loaded-table rows e = subst (λ n. IsTableOf text schema (rows_of n sorted)) (sym e) (record {
    records = header ∷ read;
    read = rows_of count columns;
    are = whole;
    said = told;
    each_once = each_once;
    ascending = ascending;
  })

  pub loaded-stable : (rows : ℕ) → rows ≡ count → count ≤ MAX_ROWS
      → IsStable (record { schema = schema; rows = rows_of rows sorted })
  loaded-stable rows e few = subst (λ n. IsStable (record { schema = schema; rows = rows_of n sorted })) (sym e) (record {
    table = table_of-table (header ∷ read) schema (rows_of count columns) (rows_of count sorted) told each_once ascending;
    few = let long = length_rows count sorted in omega (arith, long, few);
  })
