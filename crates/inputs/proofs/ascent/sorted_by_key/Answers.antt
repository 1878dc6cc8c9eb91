use Rattle.std.proofs.Common.{◌∙◌, map, sym, ap, subst, arith}
use Rattle.stable.specs.Rows.{gathered, rows_of}
use Rattle.inputs.specs.Filling.{rows_in}
use Rattle.inputs.specs.Input.{IsAscending}
use Rattle.inputs.specs.declared.fault.TableFault.TheVariants.{RepeatedKey}
use Rattle.inputs.proofs.AscentLemmas.{rows_at, rows_at-alone, rows_at-in_order, rows_at-moved, rows_numbered, rows_of-moved, rows_of-sorted, types_in-sorted, AreLong-sorted, length-places, length-rows_at, places_within}
use Rattle.inputs.proofs.FillingLemmas.{AreLong}
use Rattle.inputs.proofs.OrderLemmas.{repeats-none, repeats-least, ascends}
use Rattle.inputs.proofs.ascent.sorted_by_key.Goals as goal

pub columns_in_order-requires-clause-few : goal.columns_in_order-requires-clause-few
columns_in_order-requires-clause-few c =
    let long = length-places c.args.count c.in_ok-order.order.places.items c.in_ok-order.ensures.each_once in
    rw c.as_slice.ensures.value (omega (arith, long, c.requires.few))

pub columns_in_order-requires-clause-within : goal.columns_in_order-requires-clause-within
columns_in_order-requires-clause-within c =
    let within = places_within c.args.count c.in_ok-order.order.places.items c.in_ok-order.ensures.each_once in
    rw c.as_slice.ensures.value
    (λ col d lt k p le. let long = c.requires.filled col d lt in let here = within k p le in omega (arith, long, here))

pub returns-in-Some-clause-err : goal.returns-in-Some-clause-err
returns-in-Some-clause-err c ne =
    let k = c.args.key_cols in
    let count = c.args.count in
    let columns = c.args.columns.now in
    let places = c.in_ok-order.order.places.items in
    let moved = c.in_ok-order.ensures.each_once in
    let least = rw (sym (length-rows_at columns places)) at c.in-Some.ensures in
    let first =
    repeats-least k (rows_in count columns) (rows_at columns places) (rows_at-moved count places moved columns)
    (rows_numbered count columns) (rows_at-in_order columns places k c.in_ok-order.ensures.sorted) c.in-Some.number least in
    (first.0, first.1, ap RepeatedKey (sym first.2))

pub returns-clause-distinct : goal.returns-clause-distinct
returns-clause-distinct c =
    let k = c.args.key_cols in
    let count = c.args.count in
    let columns = c.args.columns.now in
    let places = c.in_ok-order.order.places.items in
    let least = rw (sym (length-rows_at columns places)) at c.in-None.ensures in
    repeats-none k (rows_in count columns) (rows_at columns places)
    (rows_at-moved count places c.in_ok-order.ensures.each_once columns) (rows_numbered count columns)
    (rows_at-in_order columns places k c.in_ok-order.ensures.sorted) least

pub returns-clause-each_once : goal.returns-clause-each_once
returns-clause-each_once c =
    let count = c.args.count in
    let columns = c.args.columns.now in
    let places = c.in_ok-order.order.places.items in
    let moved = c.in_ok-order.ensures.each_once in
    let is = rw c.as_slice.ensures.value at c.in_ok-columns_in_order-in-None.ensures in
    let shown =
    ap (λ n. rows_of n (map (gathered places) columns)) (sym (length-places count places moved))
    ∙ rows_of-sorted columns places in
    rw is (rw shown (rows_of-moved count places moved columns))

pub returns-clause-ascending : goal.returns-clause-ascending
returns-clause-ascending c =
    let k = c.args.key_cols in
    let count = c.args.count in
    let columns = c.args.columns.now in
    let places = c.in_ok-order.order.places.items in
    let moved = c.in_ok-order.ensures.each_once in
    let is = rw c.as_slice.ensures.value at c.in_ok-columns_in_order-in-None.ensures in
    let shown =
    ap (λ n. rows_of n (map (gathered places) columns)) (sym (length-places count places moved))
    ∙ rows_of-sorted columns places in
    let least = rw (sym (length-rows_at columns places)) at c.in-None.ensures in
    let up = ascends k (rows_at columns places) (rows_at-in_order columns places k c.in_ok-order.ensures.sorted) least in
    rw is (rw shown (subst (IsAscending k) (rows_at-alone columns places) up))

pub returns-clause-typed : goal.returns-clause-typed
returns-clause-typed c =
    let columns = c.args.columns.now in
    let places = c.in_ok-order.order.places.items in
    let is = rw c.as_slice.ensures.value at c.in_ok-columns_in_order-in-None.ensures in
    rw is (types_in-sorted columns places columns)

pub returns-clause-filled : goal.returns-clause-filled
returns-clause-filled c =
    let columns = c.args.columns.now in
    let places = c.in_ok-order.order.places.items in
    let is = rw c.as_slice.ensures.value at c.in_ok-columns_in_order-in-None.ensures in
    rw is
    (subst (λ n. AreLong n (map (gathered places) columns)) (length-places c.args.count places c.in_ok-order.ensures.each_once)
    (AreLong-sorted columns places))
