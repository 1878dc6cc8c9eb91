use Rattle.std.proofs.Common.{List, length, drop, sym, subst, arith}
use Rattle.std.proofs.lemmas.List.{drop-drop}
use Rattle.std.proofs.lemmas.List.Elements.{All-drop, All-same, All-take}
use Rattle.values.specs.declared.row.Row.{Row as Cells}
use Rattle.values.specs.declared.value.ColumnType.{ColumnType}
use Rattle.merge.specs.Fitting.{StandsAt}
use Rattle.merge.specs.Runs.{IsRun}
use Rattle.merge.proofs.FillingLemmas.{fills_same, first_filled}
use Rattle.merge.proofs.numbers.StableRowsNumbers.fill_next.Goals as goal
use Rattle.std.proofs.lemmas.Grind.{common_steps}

pub put_run-count-requires-clause-typed : goal.put_run-count-requires-clause-typed
put_run-count-requires-clause-typed c =
    let left = drop c.args.self.now.sid c.args.self.now.table.now.rows in
    let ty = c.requires.column.0 in
    let is = c.of_stretch.ensures.typed ty (All-take (StandsAt ty c.args.col) (length c.args.out.now) left c.requires.column.2) in
    (ty, c.requires.column.1, subst (λ (t : ColumnType). IsRun t c.next_run-run.result) is c.next_run-run.ensures.run)

pub returns-clause-column : goal.returns-clause-column
returns-clause-column c = λ ty column.
    let rows : List Cells = c.args.self.now.table.now.rows in
    let sid = c.args.self.now.sid in
    let n = c.put_run-count.result in
    All-same (StandsAt ty c.args.col) _ _ (sym (drop-drop n sid rows)) (All-drop (StandsAt ty c.args.col) n (drop sid rows) column)

pub returns-clause-numbers : goal.returns-clause-numbers
returns-clause-numbers c = grind (arith, common_steps, c.put_run-count.ensures.numbers, c.of_stretch.ensures.values, c.next_run-run.ensures.values, c.put_run-count.ensures.count, fills_same, first_filled)
