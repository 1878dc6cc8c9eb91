use Rattle.std.proofs.Common.{List, [], ◌∷◌, ◌++◌, sym, ap, ◌∙◌, arith}
use Rattle.std.proofs.lemmas.List.FromFn.{map-range_with_len_more}
use Rattle.blocks.specs.Column.{Column}
use Rattle.stable.specs.Rows.{column_at, first_columns}
use Rattle.merge.proofs.table.empty_columns.Goals as goal

pub loop-col-init : goal.loop-col-init
loop-col-init c = c.in_ok-columns.ensures.items

pub loop-col-preserved : goal.loop-col-preserved
loop-col-preserved c =
    let col = c.loop-col.col in
    let types = c.args.types.now in
    c.in_ok-push.ensures.items
    ∙ ap (λ (columns : List Column). columns ++ c.new.result ∷ []) c.loop-col.invariant
    ∙ ap (λ (x : Column). first_columns types [] col ++ x ∷ []) c.new.ensures
    ∙ sym (map-range_with_len_more (column_at types []) 0 col col (omega arith))

pub returns : goal.returns
returns c =
    c.loop-col.invariant
    ∙ ap (first_columns c.args.types.now []) (omega (arith, c.loop-col-test.false, c.loop-col.auto.col-end))
