use Rattle.values.specs.declared.value.ColumnType.TheVariants as column
use Rattle.merge.proofs.packed_rows.PackedRows.next_modified.Goals as goal

pub returns-clause-column : goal.returns-clause-column
returns-clause-column c = c.fill_modified.ensures.column column.Int c.requires.column
