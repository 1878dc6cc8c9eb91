use Rattle.std.proofs.Common.{ap, subst}
use Rattle.std.proofs.KnownBytes.{Appends-nil}
use Rattle.std.proofs.lemmas.List.{take_all, take_more}
use Rattle.pdtcli.specs.Output.{lines_text}
use Rattle.pdtcli.specs.Records.{HasGone}
use Rattle.pdtcli.proofs.BatchLemmas.{HasGone-more, all_gone, handed_on}
use Rattle.pdtcli.proofs.OutputLemmas.{lines_text-more}
use Rattle.pdtcli.proofs.output.show_lines.Goals as goal

pub loop-line-init : goal.loop-line-init
loop-line-init g c = handed_on _ _ _ _ (Appends-nil (g.W.Write.contents c.args.out.now)) c.in_ok-batch.ensures

pub loop-line-preserved : goal.loop-line-preserved
loop-line-preserved g c =
    rw (take_more c.args.lines.now c.loop-line.line-index c.line-item.result c.loop-line-test.true, ← c.line-item.is)
    (subst (HasGone _ _ _) (lines_text-more c.args.clients.now _ c.line-item.result)
    (HasGone-more _ _ _ _ _ _ _ c.loop-line.invariant c.in_ok-batch-2.ensures))

pub returns : goal.returns
returns g c =
    let all = take_all c.loop-line.line-index c.args.lines.now c.loop-line-test.false in
    all_gone _ _ _ _ _ c.finish.result
    (subst (HasGone _ _ _) (ap (lines_text c.args.clients.now) all) c.loop-line.invariant) c.finish.ensures
