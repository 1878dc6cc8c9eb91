use Rattle.std.proofs.Common.{◌≡◌, true, sym, rules}
use Rattle.std.specs.Result.{is_ok}
use Rattle.inputs.proofs.PlainLemmas.{unseen-more}
use Rattle.inputs.proofs.plain.no_kinds.Goals as goal

pub loop-preserved : goal.loop-preserved
loop-preserved c =
    let good : is_ok c.push.result ≡ true = search rules in
    let items = rw good at c.push.ensures.items in
    rw (items, c.loop.invariant) (sym (unseen-more c.loop.counter))
