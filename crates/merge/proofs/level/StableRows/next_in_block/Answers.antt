use Rattle.std.proofs.Common.{List, length, drop, ap, subst, arith}
use Rattle.std.specs.Prelude.{ℤ}
use Rattle.std.proofs.lemmas.List.{length-map}
use Rattle.std.proofs.lemmas.List.Elements.{All-take}
use Rattle.values.specs.declared.row.Row.{Row as Cells}
use Rattle.values.specs.declared.value.ColumnType.{ColumnType}
use Rattle.values.specs.declared.value.ColumnType.TheVariants as column
use Rattle.merge.specs.Fitting.{StandsAt}
use Rattle.merge.specs.Packed.{number_of}
use Rattle.merge.specs.Runs.{IsRun, run_values}
use Rattle.merge.proofs.FillingLemmas.{fills_same, first_filled}
use Rattle.merge.proofs.level.StableRows.next_in_block.Goals as goal
use Rattle.std.proofs.lemmas.Grind.{common_steps}

pub run_of_numbers-numbers-requires : goal.run_of_numbers-numbers-requires
run_of_numbers-numbers-requires c =
    let left : List Cells = drop c.args.self.now.sid c.args.self.now.table.now.rows in
    let ty = c.of_stretch.ensures.typed column.Int (All-take (StandsAt column.Int c.args.col) c.args.most left c.requires.column) in
    subst (λ (t : ColumnType). IsRun t c.next_run-run.result) ty c.next_run-run.ensures.run

pub returns-clause-count : goal.returns-clause-count
returns-clause-count c =
    omega (
      arith,
      ap (λ (ns : List ℤ). length ns) c.run_of_numbers-numbers.ensures,
      length-map (run_values c.next_run-run.result) number_of,
      c.next_run-run.ensures.count,
      c.of_stretch.ensures.place,
    )

pub returns-clause-numbers : goal.returns-clause-numbers
returns-clause-numbers c = grind (arith, common_steps, c.len.ensures, c.run_of_numbers-numbers.ensures, c.of_stretch.ensures.values, c.next_run-run.ensures.values, length-map, fills_same, first_filled)
