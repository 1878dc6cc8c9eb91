use Rattle.std.proofs.Common.{List, drop}
use Rattle.values.specs.declared.row.Row.{Row as Cells}
use Rattle.values.specs.declared.value.ColumnType.TheVariants as column
use Rattle.merge.specs.Filling.{numbers_in}
use Rattle.merge.specs.Fitting.{StandsAt}
use Rattle.merge.proofs.FillingLemmas.{all_filled}
use Rattle.merge.proofs.numbers.StableRowsNumbers.next_run.Goals as goal

pub returns-clause-column : goal.returns-clause-column
returns-clause-column c =
    let new = c.next_in_block.new.self in
    let old : List Cells = drop c.args.self.now.sid c.args.self.now.table.now.rows in
    all_filled (StandsAt column.Int c.args.col) c.args.col old (drop new.sid new.table.now.rows) (numbers_in c.next_in_block.result)
    c.next_in_block.ensures.numbers c.requires.column
