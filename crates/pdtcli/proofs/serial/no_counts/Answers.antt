use Rattle.std.proofs.Common.{◌≡◌, ap, replicate, ◌∙◌, arith}
use Rattle.pdtcli.proofs.CountLemmas.{counts_of_none}
use Rattle.pdtcli.proofs.serial.no_counts.Goals as goal

pub returns : goal.returns
returns c =
    let all : c.loop.counter ≡ c.args.count = omega (arith, c.loop-test.false, c.loop.auto.counter-end) in
    c.loop.invariant ∙ ap (λ n. replicate n 0) all ∙ counts_of_none c.args.count
