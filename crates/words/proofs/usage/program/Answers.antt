use Rattle.std.proofs.Common.{◌≡◌, ◌∙◌, ap, codes, true}
use Rattle.clap.specs.Simple.{app_of_fields, on_top}
use Rattle.clap.specs.Words.{App, app_of, new_app, with_subcommand}
use Rattle.words.specs.Words.{recover_usage, run_usage}
use Rattle.words.proofs.WordsLemmas.{if-done}
use Rattle.words.proofs.usage.program.Goals as goal

pub returns : goal.returns
returns c =
    let required = on_top (λ s. record s { subcommand_required = true }) in
    let top_is : app_of c.subcommand_required.result ≡ required (new_app (codes "pdt")) =
    ap app_of_fields c.subcommand_required.ensures ∙ ap required (ap app_of_fields c.about.ensures ∙ c.new.ensures.app) in
    let with_run : app_of c.in_ok-subcommand.field-0 ≡ with_subcommand (required (new_app (codes "pdt"))) run_usage.top =
    c.in_ok-run_command.ensures.among _ _ c.in_ok-subcommand.ensures ∙ ap (λ (a : App). with_subcommand a run_usage.top) top_is in
    if-done c.subcommand-2.result _ _
    (λ command adds. c.in_ok-recover_command.ensures.among _ _ adds ∙ ap (λ (a : App). with_subcommand a recover_usage.top) with_run)
    c.subcommand-2.ensures
