use Rattle.std.proofs.Common.{◌≡◌, ◌∙◌, true, false, sym, refl}
use Rattle.std.proofs.slice.Lists.{drop-cons}
use Rattle.std.specs.Str.{bytes_eq}
use Rattle.inputs.proofs.ScriptLemmas.{place_from-here, place_from-next}
use Rattle.inputs.proofs.client.find_client.Goals as goal

pub returns-then-eq : goal.returns-then-eq
returns-then-eq c =
    let here = rw (← c.index-clients-i.is) at (drop-cons c.args.clients.now c.loop-i.i c.index-clients-i.result c.loop-i-test.true) in
    let same : bytes_eq c.index-clients-i.result c.args.name.now ≡ true =
    rw (c.as_bytes.ensures.value, c.as_str.ensures) at (sym c.eq.ensures ∙ c.if-eq.true) in
    rw (c.loop-i.invariant ∙ place_from-here c.loop-i.i c.args.name.now c.index-clients-i.result c.args.clients.now here same) refl

pub loop-i-preserved : goal.loop-i-preserved
loop-i-preserved c =
    let here = rw (← c.index-clients-i.is) at (drop-cons c.args.clients.now c.loop-i.i c.index-clients-i.result c.loop-i-test.true) in
    let other : bytes_eq c.index-clients-i.result c.args.name.now ≡ false =
    rw (c.as_bytes.ensures.value, c.as_str.ensures) at (sym c.eq.ensures ∙ c.if-eq.false) in
    c.loop-i.invariant ∙ place_from-next c.loop-i.i c.args.name.now c.index-clients-i.result c.args.clients.now here other
