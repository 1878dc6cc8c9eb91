use Rattle.std.proofs.Common.{◌≡◌, ◌∙◌, [], false, List, length, ap, arith, rules}
use Rattle.std.proofs.lemmas.List.{length-map}
use Rattle.csv.specs.Records.{fields_of}
use Rattle.values.specs.declared.value.ColumnType.{ColumnType}
use Rattle.blocks.specs.Column.{Column}
use Rattle.stable.specs.Rows.{row_count}
use Rattle.inputs.specs.Filling.{rows_in}
use Rattle.inputs.specs.Input.{keyed, unless_repeated}
use Rattle.inputs.specs.Plain.{PlainColumns, arranged, as_plain, moved_rows}
use Rattle.inputs.specs.declared.fault.PlainFault.TheVariants.{Table}
use Rattle.inputs.specs.declared.plain.FoundColumns.{FoundColumns}
use Rattle.inputs.proofs.ArrangedLemmas.{arranged-all}
use Rattle.inputs.proofs.LoadLemmas.{columns-count, columns-even}
use Rattle.inputs.proofs.PlainTableLemmas.{plain_table_of-none, plain_table_of-under, plain_table_of-read, types_in-moved}
use Rattle.inputs.proofs.PlainTableLemmas.{plain-table, plain-stable}
use Rattle.inputs.proofs.ReadLemmas.{passed-up}
use Rattle.inputs.proofs.plain_loading.load_found.Goals as goal

abbrev now : FoundColumns → PlainColumns
now found = record { schema = found.schema; types = found.types.items; moved = found.moved.items }

pub returns-then-not-branch-clause-err : goal.returns-then-not-branch-clause-err
returns-then-not-branch-clause-err c ne text key sample start are all g =
    let none : c.in_ok-next_record.field-0 ≡ false = search rules in
    plain_table_of-none text key sample all (rw none at (c.in_ok-next_record.ensures text [] start)) g

pub read_rows-requires : goal.read_rows-requires
read_rows-requires c =
    let first = rw c.if-not-branch.false at (c.in_ok-next_record.ensures c.requires.0 [] c.requires.3) in
    (c.requires.0, fields_of c.next_record.new.fields, first)

pub returns-in_err-rows-clause-err : goal.returns-in_err-rows-clause-err
returns-in_err-rows-clause-err c =
    let header = fields_of c.next_record.new.fields in
    let found = now c.args.found in
    passed-up c.from_residual-in_err-rows.result _ _ c.from_residual-in_err-rows.ensures.1
    (λ ne text key sample start are all g.
    let first = rw c.if-not-branch.false at (c.in_ok-next_record.ensures text [] start) in
    let under = plain_table_of-under text key sample header all found _ first are g in
    let bad = rw c.as_slice.ensures.value at (c.in_err-rows.ensures.err (λ e. ne (ap Table e)) text header first under.0 under.1) in
    under.2 ∙ ap (λ rows. as_plain (keyed found.schema (moved_rows found.moved rows))) bad)

pub in_ascending_key-requires-clause-key : goal.in_ascending_key-requires-clause-key
in_ascending_key-requires-clause-key c =
    let header = fields_of c.next_record.new.fields in
    let found = now c.args.found in
    let first = rw c.if-not-branch.false at (c.in_ok-next_record.ensures c.requires.0 [] c.requires.3) in
    let read = rw c.as_slice.ensures.value at (c.in_ok-rows.ensures.ok c.requires.0 header first) in
    let typed =
    types_in-moved c.requires.0 c.requires.1 c.requires.2 header found c.in_ok-rows.rows.columns.items read.records read.are c.requires.4
    (c.in_ok-rows.ensures.typed ∙ c.as_slice.ensures.value) in
    let moved = rw c.as_slice-2.ensures.value at c.in_ok-columns.ensures in
    let wide = length-map c.in_ok-columns.columns.items (λ (x : Column). x.ty) in
    let types = ap (λ (types : List ColumnType). length types) (rw (← moved) at typed) in
    omega (arith, wide, types, c.key_cols.ensures.count, c.key_cols.ensures.lawful.key_within)

pub in_ascending_key-requires-clause-filled : goal.in_ascending_key-requires-clause-filled
in_ascending_key-requires-clause-filled c =
    let moved = rw c.as_slice-2.ensures.value at c.in_ok-columns.ensures in
    rw moved (arranged-all (λ (it : Column). length it.values ≡ c.in_ok-rows.rows.count) c.args.found.moved.items c.in_ok-rows.rows.columns.items
    c.in_ok-rows.ensures.filled)

pub returns-in_err-sorted-clause-err : goal.returns-in_err-sorted-clause-err
returns-in_err-sorted-clause-err c =
    let header = fields_of c.next_record.new.fields in
    let found = now c.args.found in
    let columns = c.in_ok-rows.rows.columns.items in
    let count = c.in_ok-rows.rows.count in
    let moved = rw c.as_slice-2.ensures.value at c.in_ok-columns.ensures in
    passed-up c.from_residual-in_err-sorted.result _ _ c.from_residual-in_err-sorted.ensures.1
    (λ ne text key sample start are all g.
    let first = rw c.if-not-branch.false at (c.in_ok-next_record.ensures text [] start) in
    let read = rw c.as_slice.ensures.value at (c.in_ok-rows.ensures.ok text header first) in
    let repeat = rw (c.key_cols.ensures.count, moved) at (c.in_err-sorted.ensures.err (λ e. ne (ap Table e))) in
    rw repeat.2
    (plain_table_of-read text key sample header all found columns count read are g
    ∙ ap (λ repeated. as_plain (unless_repeated found.schema (rows_in count (arranged found.moved columns)) repeated)) repeat.1))

pub of_columns-requires-clause-typed : goal.of_columns-requires-clause-typed
of_columns-requires-clause-typed c =
    let header = fields_of c.next_record.new.fields in
    let found = now c.args.found in
    let first = rw c.if-not-branch.false at (c.in_ok-next_record.ensures c.requires.0 [] c.requires.3) in
    let read = rw c.as_slice.ensures.value at (c.in_ok-rows.ensures.ok c.requires.0 header first) in
    let moved = rw c.as_slice-2.ensures.value at c.in_ok-columns.ensures in
    (rw moved at c.in_ok-sorted.ensures.typed)
    ∙ types_in-moved c.requires.0 c.requires.1 c.requires.2 header found c.in_ok-rows.rows.columns.items read.records read.are c.requires.4
    (c.in_ok-rows.ensures.typed ∙ c.as_slice.ensures.value)

pub of_columns-requires-clause-even : goal.of_columns-requires-clause-even
of_columns-requires-clause-even c =
    let header = fields_of c.next_record.new.fields in
    let found = now c.args.found in
    let first = rw c.if-not-branch.false at (c.in_ok-next_record.ensures c.requires.0 [] c.requires.3) in
    let read = rw c.as_slice.ensures.value at (c.in_ok-rows.ensures.ok c.requires.0 header first) in
    let moved = rw c.as_slice-2.ensures.value at c.in_ok-columns.ensures in
    columns-even c.args.found.schema c.key_cols.ensures.lawful c.in_ok-rows.rows.count c.in_ok-sorted.sorted.items
    ((rw moved at c.in_ok-sorted.ensures.typed)
    ∙ types_in-moved c.requires.0 c.requires.1 c.requires.2 header found c.in_ok-rows.rows.columns.items read.records read.are c.requires.4
    (c.in_ok-rows.ensures.typed ∙ c.as_slice.ensures.value))
    c.in_ok-sorted.ensures.filled

pub of_columns-requires-clause-table : goal.of_columns-requires-clause-table
of_columns-requires-clause-table c =
    let header = fields_of c.next_record.new.fields in
    let found = now c.args.found in
    let columns = c.in_ok-rows.rows.columns.items in
    let count = c.in_ok-rows.rows.count in
    let sorted = c.in_ok-sorted.sorted.items in
    let first = rw c.if-not-branch.false at (c.in_ok-next_record.ensures c.requires.0 [] c.requires.3) in
    let read = rw c.as_slice.ensures.value at (c.in_ok-rows.ensures.ok c.requires.0 header first) in
    let moved = rw c.as_slice-2.ensures.value at c.in_ok-columns.ensures in
    let key = c.key_cols.ensures.count in
    let rows =
    columns-count c.args.found.schema c.key_cols.ensures.lawful count sorted
    ((rw moved at c.in_ok-sorted.ensures.typed)
    ∙ types_in-moved c.requires.0 c.requires.1 c.requires.2 header found columns read.records read.are c.requires.4
    (c.in_ok-rows.ensures.typed ∙ c.as_slice.ensures.value))
    c.in_ok-sorted.ensures.filled in
    plain-stable c.requires.0 c.requires.1 c.requires.2 header found columns sorted count read c.requires.4
    (rw (key, moved) at c.in_ok-sorted.ensures.distinct) (rw moved at c.in_ok-sorted.ensures.each_once)
    (rw key at c.in_ok-sorted.ensures.ascending) (row_count sorted) rows c.in_ok-rows.ensures.few

pub returns-clause-ok : goal.returns-clause-ok
returns-clause-ok c text key sample start are =
    let header = fields_of c.next_record.new.fields in
    let found = now c.args.found in
    let columns = c.in_ok-rows.rows.columns.items in
    let count = c.in_ok-rows.rows.count in
    let sorted = c.in_ok-sorted.sorted.items in
    let first = rw c.if-not-branch.false at (c.in_ok-next_record.ensures text [] start) in
    let read = rw c.as_slice.ensures.value at (c.in_ok-rows.ensures.ok text header first) in
    let moved = rw c.as_slice-2.ensures.value at c.in_ok-columns.ensures in
    let lawful = c.key_cols.ensures.count in
    let rows =
    columns-count c.args.found.schema c.key_cols.ensures.lawful count sorted
    ((rw moved at c.in_ok-sorted.ensures.typed)
    ∙ types_in-moved text key sample header found columns read.records read.are are (c.in_ok-rows.ensures.typed ∙ c.as_slice.ensures.value))
    c.in_ok-sorted.ensures.filled in
    rw c.of_columns.ensures
    (plain-table text key sample header found columns sorted count read are
    (rw (lawful, moved) at c.in_ok-sorted.ensures.distinct) (rw moved at c.in_ok-sorted.ensures.each_once)
    (rw lawful at c.in_ok-sorted.ensures.ascending) (row_count sorted) rows)
