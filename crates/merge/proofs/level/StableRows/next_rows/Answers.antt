use Rattle.std.proofs.Common.{◌∙◌, ◌++◌, List, take, drop, sym, ap, arith, take-append-drop, length-take, length-drop}
use Rattle.std.proofs.lemmas.List.{drop-drop}
use Rattle.values.specs.declared.row.Row.{Row as Cells}
use Rattle.merge.proofs.level.StableRows.next_rows.Goals as goal

pub returns-clause-rows : goal.returns-clause-rows
returns-clause-rows c =
    let rows = c.args.self.now.table.now.rows in
    let left : List Cells = drop c.args.self.now.sid rows in
    sym (take-append-drop c.args.most left)
    ∙ ap (λ (ys : List Cells). take c.args.most left ++ ys) (drop-drop c.args.most c.args.self.now.sid rows)

pub returns-clause-over : goal.returns-clause-over
returns-clause-over c = λ base same.
    let rows = c.args.self.now.table.now.rows in
    let sid = c.args.self.now.sid in
    let left : List Cells = drop sid base in
    record {
      rows = sym (take-append-drop c.args.most left) ∙ ap (λ (ys : List Cells). take c.args.most left ++ ys) (drop-drop c.args.most sid base);
      count =
          omega (
            arith,
            same,
            length-take c.args.most left,
            length-take c.args.most (drop sid rows),
            length-drop sid base,
            length-drop sid rows,
          );
    }
