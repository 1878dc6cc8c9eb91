use Rattle.std.proofs.Common.{◌≡◌, ◌∙◌, List, ℕ, ap, sym, subst, inr}
use Rattle.values.specs.declared.value.ColumnType.{ColumnType}
use Rattle.stable.specs.Rows.{row_count, rows_of}
use Rattle.stable.specs.Stable.{Stable, build_fault}
use Rattle.std.specs.Prelude.{Some}
use Rattle.pdt_c.specs.Filling.{AreFilled}
use Rattle.pdt_c.proofs.FillingLemmas.{count_is, fault_is, some_column}
use Rattle.pdt_c.proofs.given.columns.GivenColumns.table.Goals as goal

pub returns-in-Ok-clause-ok : goal.returns-in-Ok-clause-ok
returns-in-Ok-clause-ok c =
    let schema = c.args.schema in
    let columns = c.in_ok-columns.columns.items in
    let rows = c.args.rows in
    let filled : AreFilled schema.types c.args.self.now rows columns =
    subst (λ (ts : List ColumnType). AreFilled ts c.args.self.now rows columns) c.types.ensures c.in_ok-columns.ensures.ok in
    let some = some_column schema columns c.width-width.ensures.lawful filled.typed in
    let count : row_count columns ≡ rows = count_is schema.types c.args.self.now rows columns some filled.filled in
    let table : Stable = record { schema = schema; rows = rows_of rows columns } in
    record {
      columns = columns;
      filled = filled;
      table_is = c.in-Ok.ensures.ok ∙ ap (λ (n : ℕ). record table { rows = rows_of n columns }) count;
    }

pub returns-in-Err-clause-build : goal.returns-in-Err-clause-build
returns-in-Err-clause-build c fault is =
    let schema = c.args.schema in
    let columns = c.in_ok-columns.columns.items in
    let rows = c.args.rows in
    let filled : AreFilled schema.types c.args.self.now rows columns =
    subst (λ (ts : List ColumnType). AreFilled ts c.args.self.now rows columns) c.types.ensures c.in_ok-columns.ensures.ok in
    let some = some_column schema columns c.width-width.ensures.lawful filled.typed in
    let count : row_count columns ≡ rows = count_is schema.types c.args.self.now rows columns some filled.filled in
    let first = build_fault schema (rows_of (row_count columns) columns) in
    let same : c.in-Err.fault ≡ fault = cc in
    record {
      columns = columns;
      why = inr (
        filled,
        ap (λ (n : ℕ). build_fault schema (rows_of n columns)) (sym count)
            ∙ fault_is first c.from_columns.result c.in-Err.fault c.in-Err.is c.from_columns.ensures.fault
            ∙ ap (λ f. Some f) same,
      );
    }
