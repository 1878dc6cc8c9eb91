use Rattle.std.proofs.Common.{◌≡◌, ◌++◌, ◌∷◌, [], sym, ap, ◌∙◌}
use Rattle.std.proofs.lemmas.List.{map_push}
use Rattle.manifest.specs.Reading.{seen}
use Rattle.manifest.specs.Types.{formats_at, formats_now}
use Rattle.manifest.proofs.TypesLemmas.{format_fails, format_more, formats_done}
use Rattle.manifest.proofs.types.formats_at.Goals as goal

pub returns-in_default : goal.returns-in_default
returns-in_default c =
    format_fails (formats_now c.loop-column.formats.items) c.args.width c.loop-column.column c.loop-column.rest.now
    (formats_at c.args.width 0 c.args.bytes.now) c.loop-column.invariant c.loop-column-test.true
    (sym c.format_at.ensures ∙ ap (seen (λ f. f.now)) c.in_default.is)

pub loop-column-preserved : goal.loop-column-preserved
loop-column-preserved c =
    let e : formats_now c.push.new.self.items ≡ formats_now c.loop-column.formats.items ++ c.in-Some.format.now ∷ [] =
    rw c.in_ok-push.ensures.items (map_push _ c.loop-column.formats.items c.in-Some.format) in
    rw e
    (format_more (formats_now c.loop-column.formats.items) c.args.width c.loop-column.column c.loop-column.rest.now
    (formats_at c.args.width 0 c.args.bytes.now) c.loop-column.invariant c.in-Some.format.now c.in-Some.after.now c.loop-column-test.true
    (sym c.format_at.ensures ∙ ap (seen (λ f. f.now)) c.in-Some.is))

pub returns : goal.returns
returns c =
    formats_done (formats_now c.loop-column.formats.items) c.args.width c.loop-column.column c.loop-column.rest.now
    (formats_at c.args.width 0 c.args.bytes.now) c.loop-column.invariant c.loop-column-test.false
