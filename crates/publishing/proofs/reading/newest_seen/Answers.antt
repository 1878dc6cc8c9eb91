use Rattle.std.proofs.Common.{sym, ◌∙◌, subst, arith}
use Rattle.std.specs.Prelude.{IfSome}
use Rattle.left_right.specs.Sides.{view}
use Rattle.publishing.specs.Views.{IsOf}
use Rattle.publishing.proofs.Beginnings.{prefix_shorter}
use Rattle.publishing.proofs.reading.newest_seen.Goals as goal

pub returns-in-Err-clause-reader : goal.returns-in-Err-clause-reader
returns-in-Err-clause-reader c =
    let opening = c.args.list.now.opening in
    c.look-reader.ensures.kept opening
    (subst (λ o. IfSome o (λ r. IsOf opening (view r.place))) (sym c.take.ensures.value ∙ c.in-Some.is) c.requires.reader)

pub returns-clause-seen : goal.returns-clause-seen
returns-clause-seen c =
    let known = c.args.list.now.list in
    let found = c.into_parts.result.1.list in
    let both = c.longer-both.ensures in
    prefix_shorter known found c.longer-both.result.list both.this both.that (omega (arith, c.len.ensures, c.len-2.ensures, c.if-len.false))
