use Rattle.std.proofs.Common.{◌≡◌, ◌∙◌, List, length, take, drop, get_or, sym, ap, subst, arith}
use Rattle.std.specs.Prelude.{false}
use Rattle.std.proofs.lemmas.List.{length-drop, take-map, take_all}
use Rattle.values.specs.declared.row.Row.{Row}
use Rattle.values.specs.declared.value.ColumnType.{ColumnType}
use Rattle.values.specs.declared.value.Value.TheVariants.{Bool as Truth}
use Rattle.model.specs.Table.{rows_of}
use Rattle.stable.specs.Rows.{column_values}
use Rattle.merge.specs.Packed.{AreNumbersOf, is_fixed_width}
use Rattle.txn.specs.Txn.{image_of}
use Rattle.pdt_c.specs.Truths.{byte_of, truths_of}
use Rattle.pdt_c.proofs.TruthLemmas.{truths_there}
use Rattle.pdt_c.proofs.calls.bools.fill_bytes.Goals as goal

pub fill_numbers-requires : goal.fill_numbers-requires
fill_numbers-requires c =
    let there = truths_there c.args.txn.now.schema.types c.args.col c.requires.column in
    record { there = there.0; fixed = ap is_fixed_width there.1 }

pub returns-clause-truths : goal.returns-clause-truths
returns-clause-truths c =
    let col = c.args.col in
    let rows : List Row = drop c.args.from (rows_of (image_of c.args.txn.now)) in
    let count = c.fill_numbers.result in
    let numbers = c.fill_numbers.new.out in
    let many : count ≡ length c.args.out.now = omega (
      arith,
      c.fill_numbers.ensures.count,
      c.requires.rows,
      c.requires.room,
      length-drop c.args.from (rows_of (image_of c.args.txn.now)),
    ) in
    let values = column_values col (take count rows) in
    let typed = subst (λ (ty : ColumnType). AreNumbersOf ty values (take count numbers))
    (truths_there c.args.txn.now.schema.types col c.requires.column).1 c.fill_numbers.ensures.values in
    let are = subst (AreNumbersOf _ values) (take_all count numbers (omega (arith, many, c.requires.room, c.fill_numbers.auto.out))) typed in
    c.put_bytes.ensures.truths values are
    ∙ ap truths_of (sym (take-map (λ (row : Row). get_or row col (Truth false)) count rows))
    ∙ sym (take-map byte_of count (column_values col rows))
    ∙ ap (λ n. take n (truths_of (column_values col rows))) many
