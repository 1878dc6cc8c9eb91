use Rattle.std.proofs.Common.{◌∙◌, List, map, take, drop, sym, ap, subst, arith}
use Rattle.std.proofs.lemmas.List.{length-take}
use Rattle.std.specs.Option.{option_copied}
use Rattle.values.specs.declared.row.Row.{Row}
use Rattle.stable.specs.Rows.{column_values}
use Rattle.merge.specs.Image.{image_rows}
use Rattle.merge.specs.Packed.{AreNumbersOf, number_at, type_at}
use Rattle.merge.proofs.FillingLemmas.{are_numbers_of, drop_cut, filled_part}
use Rattle.merge.proofs.LeftLemmas.{counted_is}
use Rattle.merge.proofs.PackedPlaceLemmas.{image_values}
use Rattle.merge.proofs.layers.Layers.fill_numbers.Goals as goal

pub returns-clause-values : goal.returns-clause-values
returns-clause-values c =
    let l = c.self.inside in
    let counted = counted_is l.stable.now l.read.now l.write.now (option_copied l.trans) l.len c.args.self.now c.self.view_is
    c.self.invariant in
    let cut = length-take c.min-count.result c.args.out.now in
    let numbers =
    filled_part c.args.col c.min-count.result _ _ c.fill.new.out _ c.fill.ensures.numbers
    (omega (arith, c.fill.ensures.length, c.min-count.ensures, cut))
    ∙ ap (λ (rs : List Row). map (number_at c.args.col) (take c.min-count.result rs))
    (c.number_rows_from.ensures.rows
    ∙ drop_cut c.args.from c.min-start.result (image_rows c.args.self.now) (omega (arith, c.min-start.ensures, counted)))
    in
    let have = image_values l.stable.now l.read.now l.write.now (option_copied l.trans) l.len c.args.self.now c.self.view_is
    c.self.invariant c.args.col c.requires.column.there c.args.from c.min-count.result in
    let rows = take c.min-count.result (drop c.args.from (image_rows c.args.self.now)) in
    let ty = type_at c.args.self.now.schema c.args.col in
    subst (AreNumbersOf ty (column_values c.args.col rows)) (sym numbers) (are_numbers_of ty c.args.col rows have)
