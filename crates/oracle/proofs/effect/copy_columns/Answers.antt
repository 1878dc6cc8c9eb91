use Rattle.std.proofs.Common.{◌∙◌, ◌++◌, ap, nat_cmp}
use Rattle.std.specs.Cmp.{nat_cmp_total}
use Rattle.model.specs.Maps.{put}
use Rattle.oracle.proofs.OrderedMapLemmas.{copied-put, is_sorted-ordered}
use Rattle.oracle.proofs.effect.copy_columns.Goals as goal

pub loop-col-preserved : goal.loop-col-preserved
loop-col-preserved c =
    let ordered = is_sorted-ordered nat_cmp c.args.columns.now.entries c.into_iter-col-iterator.ensures.into_iter_gives.5 in
    ap (λ es. es ++ c.next.new.self) c.in_ok-put.ensures.ok
    ∙ ap (λ v. put nat_cmp c.in-Some.col.now v c.loop-col.copied.entries ++ c.next.new.self) c.in_ok-copy.ensures.same
    ∙ copied-put nat_cmp nat_cmp_total c.args.columns.now.entries c.loop-col.copied.entries c.loop-col.col-iterator
    c.next.new.self c.in-Some.col.now c.in-Some.value.now ordered c.loop-col.invariant c.in-Some.ensures.steps
