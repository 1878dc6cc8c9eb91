use Rattle.std.proofs.Common.{◌≡◌, ◌∙◌, ap, ap₂, codes}
use Rattle.clap.specs.Simple.{app_of_fields}
use Rattle.clap.specs.Words.{App, app_of, new_app, with_rule, with_subcommand}
use Rattle.words.specs.Words.{folder_rule, option_rule, recover_usage}
use Rattle.words.proofs.WordsLemmas.{if-done}
use Rattle.words.proofs.usage.recover_command.Goals as goal

pub returns : goal.returns
returns c =
    let one : App = with_rule (new_app (codes "recover")) (folder_rule (codes "dir")) in
    let two : App = with_rule one (option_rule (codes "table")) in
    let bare = ap app_of_fields c.about.ensures ∙ c.new.ensures.app in
    let with_dir : app_of c.in_ok-arg.field-0 ≡ one =
    c.in_ok-arg.ensures.shape c.folder.ensures.local ∙ ap₂ with_rule bare c.folder.ensures.rule in
    let with_table : app_of c.in_ok-arg-2.field-0 ≡ two =
    c.in_ok-arg-2.ensures.shape c.option.ensures.local ∙ ap₂ with_rule with_dir c.option.ensures.rule in
    let one_local = rw (c.about.ensures, c.new.ensures.local, c.folder.ensures.local) at c.in_ok-arg.ensures.globals in
    let two_local = rw (one_local, c.option.ensures.local) at c.in_ok-arg-2.ensures.globals in
    if-done c.arg-3.result _ _
    (λ command adds.
    let recover_is : app_of command ≡ recover_usage = adds.shape c.flag.ensures.local ∙ ap₂ with_rule with_table c.flag.ensures.rule in
    record {
      alone = recover_is;
      among = λ top added put.
          put.shape (rw (two_local, c.flag.ensures.local) at adds.globals)
          ∙ ap (λ (a : App). with_subcommand (app_of top) a.top) recover_is;
    })
    c.arg-3.ensures
