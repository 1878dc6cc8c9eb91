use Rattle.std.proofs.Common.{◌≡◌, IsTrue, sym, subst, arith}
use Rattle.std.proofs.lemmas.Result.{IfOk-weaker}
use Rattle.inputs.specs.Filling.{AreApart, AreDistinct}
use Rattle.inputs.specs.declared.ascent.KeyOrder.{KeyOrder}
use Rattle.inputs.proofs.NumberLemmas.{distinct-one}
use Rattle.inputs.proofs.ascent.places_by_key.Goals as goal

pub returns-then-matches-clause-apart : goal.returns-then-matches-clause-apart
returns-then-matches-clause-apart c =
    let columns = c.args.columns.now in
    let first = c.index-columns-0.result in
    let one : c.args.key_cols ≡ 1 = c.if-key_cols-eq1.true in
    let step : (order : KeyOrder) → (IsTrue order.apart → AreApart first order.places.items) → IsTrue order.apart
    → AreDistinct c.args.key_cols columns order.places.items =
    λ order apart is. subst (λ k. AreDistinct k columns order.places.items) (sym one)
    (distinct-one columns first order.places.items (omega (arith, c.requires.key, one)) c.index-columns-0.is (apart is)) in
    IfOk-weaker c.places_by_number.result (λ order. IsTrue order.apart → AreApart first order.places.items)
    (λ order. IsTrue order.apart → AreDistinct c.args.key_cols columns order.places.items) step c.places_by_number.ensures.apart
