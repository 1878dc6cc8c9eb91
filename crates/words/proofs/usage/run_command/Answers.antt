use Rattle.std.proofs.Common.{◌≡◌, ◌∙◌, ap, ap₂, codes}
use Rattle.clap.specs.Simple.{app_of_fields}
use Rattle.clap.specs.Words.{App, app_of, new_app, with_rule, with_subcommand}
use Rattle.values.specs.declared.limits.TheConstants.{MAX_RECENT_COMMITS, MAX_ROWS}
use Rattle.words.specs.Words.{flag_rule, folder_option_rule, number_rule, option_rule, placed_rule, run_usage}
use Rattle.words.proofs.WordsLemmas.{if-done}
use Rattle.words.proofs.usage.run_command.Goals as goal

pub returns : goal.returns
returns c =
    let one : App = with_rule (new_app (codes "run")) (placed_rule (codes "table")) in
    let two : App = with_rule one (placed_rule (codes "script")) in
    let three : App = with_rule two (flag_rule (codes "threads")) in
    let four : App = with_rule three (folder_option_rule (codes "store")) in
    let five : App = with_rule four (flag_rule (codes "journal")) in
    let six : App = with_rule five (number_rule (codes "recent") MAX_RECENT_COMMITS) in
    let seven : App = with_rule six (number_rule (codes "limit") MAX_ROWS) in
    let eight : App = with_rule seven (option_rule (codes "conflicts")) in
    let bare = ap app_of_fields c.about.ensures ∙ c.new.ensures.app in
    let with_table : app_of c.in_ok-arg.field-0 ≡ one =
    c.in_ok-arg.ensures.shape c.file.ensures.local ∙ ap₂ with_rule bare c.file.ensures.rule in
    let with_script : app_of c.in_ok-arg-2.field-0 ≡ two =
    c.in_ok-arg-2.ensures.shape c.file-2.ensures.local ∙ ap₂ with_rule with_table c.file-2.ensures.rule in
    let with_threads : app_of c.in_ok-arg-3.field-0 ≡ three =
    c.in_ok-arg-3.ensures.shape c.flag.ensures.local ∙ ap₂ with_rule with_script c.flag.ensures.rule in
    let with_store : app_of c.in_ok-arg-4.field-0 ≡ four =
    c.in_ok-arg-4.ensures.shape c.folder_option.ensures.local ∙ ap₂ with_rule with_threads c.folder_option.ensures.rule in
    let with_journal : app_of c.in_ok-arg-5.field-0 ≡ five =
    c.in_ok-arg-5.ensures.shape c.flag-2.ensures.local ∙ ap₂ with_rule with_store c.flag-2.ensures.rule in
    let with_recent : app_of c.in_ok-arg-6.field-0 ≡ six =
    c.in_ok-arg-6.ensures.shape c.number.ensures.local ∙ ap₂ with_rule with_journal c.number.ensures.rule in
    let with_limit : app_of c.in_ok-arg-7.field-0 ≡ seven =
    c.in_ok-arg-7.ensures.shape c.number-2.ensures.local ∙ ap₂ with_rule with_recent c.number-2.ensures.rule in
    let with_conflicts : app_of c.in_ok-arg-8.field-0 ≡ eight =
    c.in_ok-arg-8.ensures.shape c.option.ensures.local ∙ ap₂ with_rule with_limit c.option.ensures.rule in
    let one_local = rw (c.about.ensures, c.new.ensures.local, c.file.ensures.local) at c.in_ok-arg.ensures.globals in
    let two_local = rw (one_local, c.file-2.ensures.local) at c.in_ok-arg-2.ensures.globals in
    let three_local = rw (two_local, c.flag.ensures.local) at c.in_ok-arg-3.ensures.globals in
    let four_local = rw (three_local, c.folder_option.ensures.local) at c.in_ok-arg-4.ensures.globals in
    let five_local = rw (four_local, c.flag-2.ensures.local) at c.in_ok-arg-5.ensures.globals in
    let six_local = rw (five_local, c.number.ensures.local) at c.in_ok-arg-6.ensures.globals in
    let seven_local = rw (six_local, c.number-2.ensures.local) at c.in_ok-arg-7.ensures.globals in
    let eight_local = rw (seven_local, c.option.ensures.local) at c.in_ok-arg-8.ensures.globals in
    if-done c.arg-9.result _ _
    (λ command adds.
    let run_is : app_of command ≡ run_usage = adds.shape c.flag-3.ensures.local ∙ ap₂ with_rule with_conflicts c.flag-3.ensures.rule in
    record {
      alone = run_is;
      among = λ top added put.
          put.shape (rw (eight_local, c.flag-3.ensures.local) at adds.globals)
          ∙ ap (λ (a : App). with_subcommand (app_of top) a.top) run_is;
    })
    c.arg-9.ensures
