use Rattle.std.proofs.Common.{ap, sym, ◌∙◌, arith}
use Rattle.std.specs.Prelude.{is_none}
use Rattle.codec.proofs.FitLemmas.{fault_here, fault_first, fault_none, list_is}
use Rattle.codec.proofs.fit.cells_fit.Goals as goal

pub returns-then-not-value_fits : goal.returns-then-not-value_fits
returns-then-not-value_fits c =
    let types = c.args.types.now in
    let cells = c.args.cells.now in
    let col = c.loop-col.col in
    let inv = c.loop-col.invariant in
    let value = c.index-cells-col.result in
    let here = fault_here types cells col _ value (omega (arith, c.loop-col-test.true, inv.same_count)) inv.same_count c.index-cells-col.is in
    let bad = c.if-not-value_fits.ensures col in
    let said = rw c.as_ref.ensures at bad in
    sym (ap is_none (list_is types cells inv.same_count ∙ inv.none_so_far ∙ here) ∙ fault_first _ _ (sym said))

pub loop-col-preserved : goal.loop-col-preserved
loop-col-preserved c =
    let types = c.args.types.now in
    let cells = c.args.cells.now in
    let col = c.loop-col.col in
    let inv = c.loop-col.invariant in
    let value = c.index-cells-col.result in
    let here = fault_here types cells col _ value (omega (arith, c.loop-col-test.true, inv.same_count)) inv.same_count c.index-cells-col.is in
    let good = c.if-not-value_fits.ensures col in
    let said = rw c.as_ref.ensures at good in
    record { same_count = inv.same_count; none_so_far = inv.none_so_far ∙ here ∙ fault_none _ _ (sym said) }
