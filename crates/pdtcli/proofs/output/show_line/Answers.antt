use Rattle.std.proofs.Common.{subst}
use Rattle.std.proofs.lemmas.Result.{IfOk-weaker}
use Rattle.pdtcli.specs.Records.{Goes}
use Rattle.pdtcli.specs.Replies.{line_fields}
use Rattle.pdtcli.proofs.BatchLemmas.{Goes-record, Goes-trans}
use Rattle.pdtcli.proofs.OutputLemmas.{line_text-parts}
use Rattle.pdtcli.proofs.output.show_line.Goals as goal

pub returns : goal.returns
returns g c =
    let clients = c.args.clients.now in
    let line = c.args.line.now in
    let fields = line_fields clients line in
    IfOk-weaker c.end_record.result _ _
    (λ next ends. subst
    (Goes (g.W.Write.contents c.args.out.now) (g.W.Write.contents c.end_record.new.out) c.args.batch.records next.records)
    (line_text-parts clients line)
    (Goes-trans _ (g.W.Write.contents c.show_shown.new.out) _ _ c.in_ok-batch.batch.records _ _ _ c.in_ok-batch.ensures
    (Goes-record _ _ _ c.push_line.new.records _ fields c.in_ok-push_line.ensures ends)))
    c.end_record.ensures
