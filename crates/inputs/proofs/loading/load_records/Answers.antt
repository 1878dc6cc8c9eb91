use Rattle.std.proofs.Common.{◌∙◌, ap}
use Rattle.stable.specs.Rows.{row_count}
use Rattle.inputs.specs.Filling.{rows_in}
use Rattle.inputs.specs.Input.{keyed, unless_repeated}
use Rattle.inputs.proofs.ReadLemmas.{passed-up}
use Rattle.inputs.proofs.TableLemmas.{table_of-read, table_of-under}
use Rattle.inputs.proofs.LoadLemmas.{columns-count, columns-even, loaded-stable, loaded-table}
use Rattle.inputs.proofs.loading.load_records.Goals as goal

pub returns-in_err-rows-clause-err : goal.returns-in_err-rows-clause-err
returns-in_err-rows-clause-err c =
    let first = c.in_ok-schema.ensures.ok in
    passed-up c.from_residual-in_err-rows.result _ _ c.from_residual-in_err-rows.ensures.1
    (λ ne text start all g.
    let under = table_of-under text first.0 all c.in_ok-schema.schema _ (first.2 text start) first.1 g in
    under.2 ∙ ap (keyed c.in_ok-schema.schema)
    (rw c.types.ensures at (c.in_err-rows.ensures.err ne text first.0 (first.2 text start) under.0 under.1)))

pub returns-in_err-sorted-clause-err : goal.returns-in_err-sorted-clause-err
returns-in_err-sorted-clause-err c =
    let first = c.in_ok-schema.ensures.ok in
    let schema = c.in_ok-schema.schema in
    let columns = c.in_ok-rows.rows.columns.items in
    let count = c.in_ok-rows.rows.count in
    passed-up c.from_residual-in_err-sorted.result _ _ c.from_residual-in_err-sorted.ensures.1
    (λ ne text start all g.
    let read = rw c.types.ensures at (c.in_ok-rows.ensures.ok text first.0 (first.2 text start)) in
    let found = rw c.key_cols.ensures.count at (c.in_err-sorted.ensures.err ne) in
    rw found.2 (table_of-read text first.0 all schema columns count read first.1 g
    ∙ ap (unless_repeated schema (rows_in count columns)) found.1))

pub of_columns-requires-clause-even : goal.of_columns-requires-clause-even
of_columns-requires-clause-even c =
    columns-even c.in_ok-schema.schema c.key_cols.ensures.lawful c.in_ok-rows.rows.count c.in_ok-sorted.sorted.items
    (c.in_ok-sorted.ensures.typed ∙ c.in_ok-rows.ensures.typed ∙ c.types.ensures) c.in_ok-sorted.ensures.filled

pub of_columns-requires-clause-table : goal.of_columns-requires-clause-table
of_columns-requires-clause-table c =
    let first = c.in_ok-schema.ensures.ok in
    let schema = c.in_ok-schema.schema in
    let columns = c.in_ok-rows.rows.columns.items in
    let count = c.in_ok-rows.rows.count in
    let sorted = c.in_ok-sorted.sorted.items in
    let key = c.key_cols.ensures.count in
    let read = rw c.types.ensures at (c.in_ok-rows.ensures.ok c.requires.0 first.0 (first.2 c.requires.0 c.requires.1)) in
    let rows =
    columns-count schema c.key_cols.ensures.lawful count sorted
    (c.in_ok-sorted.ensures.typed ∙ c.in_ok-rows.ensures.typed ∙ c.types.ensures) c.in_ok-sorted.ensures.filled in
    loaded-stable c.requires.0 first.0 read.records schema columns sorted count read.are first.1 read.said
    (rw key at c.in_ok-sorted.ensures.distinct) c.in_ok-sorted.ensures.each_once (rw key at c.in_ok-sorted.ensures.ascending)
    (row_count sorted) rows c.in_ok-rows.ensures.few

pub returns-clause-ok : goal.returns-clause-ok
returns-clause-ok c text start =
    let first = c.in_ok-schema.ensures.ok in
    let schema = c.in_ok-schema.schema in
    let columns = c.in_ok-rows.rows.columns.items in
    let count = c.in_ok-rows.rows.count in
    let sorted = c.in_ok-sorted.sorted.items in
    let key = c.key_cols.ensures.count in
    let read = rw c.types.ensures at (c.in_ok-rows.ensures.ok text first.0 (first.2 text start)) in
    let rows =
    columns-count schema c.key_cols.ensures.lawful count sorted
    (c.in_ok-sorted.ensures.typed ∙ c.in_ok-rows.ensures.typed ∙ c.types.ensures) c.in_ok-sorted.ensures.filled in
    rw c.of_columns.ensures
    (loaded-table text first.0 read.records schema columns sorted count read.are first.1 read.said
    (rw key at c.in_ok-sorted.ensures.distinct) c.in_ok-sorted.ensures.each_once (rw key at c.in_ok-sorted.ensures.ascending)
    (row_count sorted) rows)
