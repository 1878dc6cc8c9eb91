use Rattle.std.proofs.Common.{◌≡◌, false, get_or, ap, ◌∙◌, arith}
use Rattle.values.specs.Shape.{is_too_long}
use Rattle.values.specs.declared.value.Value.TheVariants.{Bool as Truth}
use Rattle.values.specs.Lent.{value_of}
use Rattle.stable.proofs.RowsLemmas.{fit_at}
use Rattle.stable.proofs.table.column_of.Goals as goal
use Rattle.std.proofs.lemmas.Grind.{common_steps}

-- the cell that is pushed is the row's
cell_is : (c : goal.After-as_ref)
    → value_of c.as_ref.result ≡ get_or (get_or c.args.rows.now c.loop-row.row-index c.row-item.result) c.args.col (Truth false)
cell_is c = grind (arith, common_steps)

pub push-requires-clause-typed : goal.push-requires-clause-typed
push-requires-clause-typed c =
    grind (arith, common_steps, c.requires.within, c.requires.fitting, c.loop-row-test.true, c.loop-row.invariant, fit_at, cell_is)

pub push-requires-clause-short : goal.push-requires-clause-short
push-requires-clause-short c =
    let types = c.args.types.now in
    let fit =
    fit_at types (get_or c.args.rows.now c.loop-row.row-index c.row-item.result) c.args.col c.requires.within
    (c.requires.fitting c.loop-row.row-index c.row-item.result c.loop-row-test.true) in
    ap is_too_long (cell_is c) ∙ fit.short
