use Rattle.std.proofs.Common.{◌≡◌, None, List, sym, ap, ◌∙◌}
use Rattle.blocks.specs.Column.{Column}
use Rattle.stable.specs.Rows.{row_count, rows_of}
use Rattle.stable.specs.Stable.{build_fault}
use Rattle.stable.proofs.StableLemmas.{is_stable}
use Rattle.stable.proofs.table.StableTable.from_columns.Goals as goal

pub of_columns-requires-clause-table : goal.of_columns-requires-clause-table
of_columns-requires-clause-table c =
    let schema = c.args.schema in
    let columns = c.args.columns.items in
    let count = c.row_count-count.ensures.count ∙ ap row_count c.as_slice.ensures.value in
    let none : build_fault schema (rows_of (row_count columns) columns) ≡ None =
    ap (λ n. build_fault schema (rows_of n columns)) (sym count)
    ∙ ap (λ (cs : List Column). build_fault schema (rows_of c.row_count-count.result cs)) (sym c.as_slice-2.ensures.value)
    ∙ sym c.first_fault_of.ensures
    ∙ c.in-None.is in
    is_stable schema (rows_of (row_count columns) columns) none
