use Rattle.std.proofs.Common.{ℕ, List, [], ap, subst, sym}
use Rattle.std.proofs.lemmas.List.{append-nil}
use Rattle.pdtcli.specs.Output.{records_text}
use Rattle.pdtcli.specs.Records.{HasGone}
use Rattle.pdtcli.specs.Replies.{line_records}
use Rattle.pdtcli.proofs.BatchLemmas.{all_gone}
use Rattle.pdtcli.proofs.output.show_reply.Goals as goal

pub returns : goal.returns
returns g c =
    let one = sym (append-nil (line_records c.args.clients.now c.args.line.now)) in
    all_gone _ _ _ _ _ c.finish.result
    (subst (HasGone _ _ _) (ap (λ (records : List (List (List ℕ))). records_text records) one)
    (c.in_ok-batch.ensures [] c.in_ok-new.ensures)) c.finish.ensures
