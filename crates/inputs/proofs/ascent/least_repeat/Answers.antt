use Rattle.std.proofs.Common.{◌≡◌, ◌<◌, ◌+◌, length, get_or, sym, arith}
use Rattle.inputs.specs.Filling.{row_in}
use Rattle.inputs.proofs.AscentLemmas.{rows_at, rows_at-get, length-rows_at}
use Rattle.inputs.proofs.OrderLemmas.{IsLeastRepeat-start, IsLeastRepeat-step, IsLeastRepeat-end}
use Rattle.inputs.proofs.ascent.least_repeat.Goals as goal

pub loop-i-init : goal.loop-i-init
loop-i-init c = IsLeastRepeat-start c.args.key_cols (rows_at c.args.columns.now c.args.places.now)

pub loop-i-preserved : goal.loop-i-preserved
loop-i-preserved c =
    let columns = c.args.columns.now in
    let places = c.args.places.now in
    let i = c.loop-i.i in
    let before = get_or places i 0 in
    let place = get_or places (i + 1) 0 in
    let below : i + 1 < length places = omega arith in
    let long = length-rows_at columns places in
    let at : row_in columns before ≡ get_or (rows_at columns places) i (row_in columns before) =
    sym (rows_at-get columns places i (row_in columns before) (omega (arith, below))) in
    let next : row_in columns place ≡ get_or (rows_at columns places) (i + 1) (row_in columns place) =
    sym (rows_at-get columns places (i + 1) (row_in columns place) below) in
    rw c.least_after-least.ensures
    (IsLeastRepeat-step c.args.key_cols (rows_at columns places) i (row_in columns before) (row_in columns place)
    (omega (arith, below, long)) at next c.loop-i.least c.loop-i.invariant)

pub returns : goal.returns
returns c =
    let rows = rows_at c.args.columns.now c.args.places.now in
    let long = length-rows_at c.args.columns.now c.args.places.now in
    rw (sym long) (IsLeastRepeat-end c.args.key_cols rows c.loop-i.i c.loop-i.least (omega (arith, long)) (omega (arith, long))
    c.loop-i.invariant)
