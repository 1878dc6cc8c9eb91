use Rattle.std.proofs.Common.{◌∙◌, ◌++◌, [], ap, sym, ℕ, List}
use Rattle.std.proofs.lemmas.List.{append-nil}
use Rattle.std.proofs.lemmas.Result.{IfOk-weaker}
use Rattle.pdtcli.specs.Output.{header_fields}
use Rattle.pdtcli.specs.Records.{record_text}
use Rattle.pdtcli.proofs.RecordsLemmas.{IsUnderway-none}
use Rattle.pdtcli.proofs.output.header_after.Goals as goal

pub returns : goal.returns
returns c =
    let text : List ℕ = c.args.text.items in
    let made = c.in_ok-push_header.ensures text [] (IsUnderway-none _ text c.in_ok-records.ensures) in
    let written = c.in_ok-end_record.ensures text (header_fields c.args.schema.now) made in
    IfOk-weaker c.into_text.result _ _
    (λ longer is. is _ written ∙ ap (λ (z : List ℕ). text ++ z) (sym (append-nil (record_text (header_fields c.args.schema.now)))))
    c.into_text.ensures
