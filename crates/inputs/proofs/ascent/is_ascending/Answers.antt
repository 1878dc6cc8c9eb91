use Rattle.std.proofs.Common.{◌≡◌, ◌∙◌, true, is_lt, sym, arith}
use Rattle.inputs.proofs.AscentLemmas.{ascent-step}
use Rattle.inputs.proofs.ascent.is_ascending.Goals as goal

pub loop-i-init : goal.loop-i-init
loop-i-init c = λ k lt. absurd (omega (arith, lt))

pub loop-i-preserved : goal.loop-i-preserved
loop-i-preserved c =
    let less : is_lt c.compare_keys.result ≡ true = sym c.is_lt.ensures ∙ c.if-not-is_lt.false in
    ascent-step c.args.key_cols c.args.columns.now c.loop-i.i c.compare_keys.result (omega arith) c.compare_keys.ensures less
    c.loop-i.invariant

pub returns : goal.returns
returns c = λ is k lt. c.loop-i.invariant k (omega (arith, lt, c.loop-i-test.false))
