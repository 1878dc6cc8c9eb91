use Rattle.std.proofs.Common.{◌≡◌, ◌∙◌, true, false, sym}
use Rattle.std.specs.Str.{bytes_eq}
use Rattle.inputs.proofs.ScriptLemmas.{drop-slice_get, place_from-here, place_from-next}
use Rattle.inputs.proofs.arguments.find_column.Goals as goal

pub returns-then-eq-clause-first : goal.returns-then-eq-clause-first
returns-then-eq-clause-first c =
    let here = drop-slice_get c.args.schema.now.names c.loop-col.col c.name.result.now c.name.ensures in
    let same : bytes_eq c.name.result.now c.args.name.now ≡ true = rw c.as_bytes.ensures.value at (sym c.eq.ensures ∙ c.if-eq.true) in
    sym (c.loop-col.invariant ∙ place_from-here c.loop-col.col c.args.name.now c.name.result.now c.args.schema.now.names here same)

pub loop-col-preserved : goal.loop-col-preserved
loop-col-preserved c =
    let here = drop-slice_get c.args.schema.now.names c.loop-col.col c.name.result.now c.name.ensures in
    let other : bytes_eq c.name.result.now c.args.name.now ≡ false = rw c.as_bytes.ensures.value at (sym c.eq.ensures ∙ c.if-eq.false) in
    c.loop-col.invariant ∙ place_from-next c.loop-col.col c.args.name.now c.name.result.now c.args.schema.now.names here other
