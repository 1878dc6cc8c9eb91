use Rattle.std.proofs.Common.{◌≡◌, ◌∙◌, Bool, true, [], length, take, drop, ap, sym, subst}
use Rattle.std.specs.Prelude.{cond}
use Rattle.model.specs.Table.{rows_of}
use Rattle.txn.specs.Txn.{image_of}
use Rattle.merge.specs.Packed.{AreNumbersOf, is_fixed_width}
use Rattle.stable.specs.Rows.{column_values}
use Rattle.pdt_c.specs.Cells.{numbers_of}
use Rattle.pdt_c.specs.Numbers.{has_numbers}
use Rattle.pdt_c.specs.Reads.{column_from}
use Rattle.pdt_c.proofs.NumberLemmas.{ints_there, numbers_filled}
use Rattle.pdt_c.proofs.calls.ints.read_ints.Goals as goal

pub fill_numbers-requires : goal.fill_numbers-requires
fill_numbers-requires c =
    let there = ints_there c.args.txn.now.schema.types c.args.col (sym c.is_of_numbers.ensures ∙ c.if-not-is_of_numbers.false) in
    record { there = there.0; fixed = ap is_fixed_width there.1 }

pub returns-clause-numbers : goal.returns-clause-numbers
returns-clause-numbers c =
    let txn = c.args.txn.now in
    let room = length c.args.out.now in
    let has : has_numbers txn c.args.col ≡ true = sym c.is_of_numbers.ensures ∙ c.if-not-is_of_numbers.false in
    let all = column_values c.args.col (take c.fill_numbers.result (drop c.args.from (rows_of (image_of txn)))) in
    let told = subst (λ ty. AreNumbersOf ty all (take c.fill_numbers.result c.fill_numbers.new.out))
    (ints_there txn.schema.types c.args.col has).1 c.fill_numbers.ensures.values in
    numbers_filled c.args.col room c.fill_numbers.result c.fill_numbers.new.out (drop c.args.from (rows_of (image_of txn)))
    c.fill_numbers.ensures.count told
    ∙ ap (λ (b : Bool). take room (cond b (numbers_of (column_from txn c.args.col c.args.from)) [])) (sym has)
