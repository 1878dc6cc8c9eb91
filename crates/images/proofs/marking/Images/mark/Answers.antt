use Rattle.std.proofs.lemmas.Result.{err_from_is_err_and}
use Rattle.images.proofs.MarkingLemmas.{is_marked, is_unmarked}
use Rattle.images.proofs.marking.Images.mark.Goals as goal

pub returns-clause-ok : goal.returns-clause-ok
returns-clause-ok g c =
    is_marked _ _ c.self.view_is c.args.mark _ c.saturating_sub.ensures _ c.mark_bytes-payload.ensures _ c.in_ok-log.ensures.ok

pub returns-in_err-log-clause-err : goal.returns-in_err-log-clause-err
returns-in_err-log-clause-err g c =
    let p = err_from_is_err_and c.from_residual.result c.from_residual.ensures.1 in
    rw (p.1, p.2)
    (is_unmarked _ _ c.self.view_is c.args.mark _ c.saturating_sub.ensures _ c.mark_bytes-payload.ensures _ _ c.in_err-log.ensures.err)
