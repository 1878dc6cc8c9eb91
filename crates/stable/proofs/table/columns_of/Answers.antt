use Rattle.std.proofs.Common.{[], ◌∷◌, ◌++◌, sym, ap, ◌∙◌, arith}
use Rattle.std.proofs.lemmas.List.FromFn.{map-range_with_len_more}
use Rattle.stable.specs.Rows.{column_at, first_columns}
use Rattle.stable.proofs.table.columns_of.Goals as goal

pub loop-col-preserved : goal.loop-col-preserved
loop-col-preserved c =
    let col = c.loop-col.col in
    let types = c.args.types.now in
    let rows = c.args.rows.now in
    c.in_ok-push.ensures.items
    ∙ ap (λ cs. cs ++ c.in_ok-column.column ∷ []) c.loop-col.invariant
    ∙ ap (λ x. first_columns types rows col ++ x ∷ []) c.in_ok-column.ensures
    ∙ sym (map-range_with_len_more (column_at types rows) 0 col col (omega arith))
