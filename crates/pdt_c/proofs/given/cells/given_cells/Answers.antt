use Rattle.std.proofs.Common.{◌++◌, map, ap, arith, ◌∙◌}
use Rattle.std.specs.List.{flat_map}
use Rattle.pdt_c.specs.Cells.{type_of, number_of, bytes_of}
use Rattle.pdt_c.proofs.CellLemmas.{map_more, bytes_move}
use Rattle.pdt_c.proofs.given.cells.given_cells.Goals as goal

pub loop-col-preserved : goal.loop-col-preserved
loop-col-preserved c =
    let cells = c.loop-col.cells.items in
    let cell = c.in_ok-cell.cell in
    let col = c.loop-col.col in
    let grown = c.in_ok-push.ensures.items in
    let read = c.in_ok-cell.ensures in (
      ap (map type_of) grown
          ∙ map_more type_of cells cell c.args.types.now col _ (omega (arith, c.loop-col-test.true, c.loop-col.auto.col-end))
          c.loop-col.invariant.0 read.typed,
      ap (map number_of) grown
          ∙ map_more number_of cells cell c.args.numbers.now col _
          (omega (arith, c.loop-col-test.true, c.loop-col.auto.col-end, c.if-numbers-types.false)) c.loop-col.invariant.1
          read.number,
      ap (λ xs. flat_map bytes_of xs ++ c.in_ok-cell.left.now) grown
          ∙ bytes_move cells cell c.loop-col.rest.now c.in_ok-cell.left.now c.args.texts.now c.loop-col.invariant.2 read.text,
    )
