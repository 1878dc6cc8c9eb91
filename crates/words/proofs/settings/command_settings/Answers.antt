use Rattle.std.proofs.Common.{◌≡◌, ◌∙◌, Some, ap, sym}
use Rattle.std.specs.Option.{option_map}
use Rattle.clap.specs.Words.{first_value, found_of, rows_of, subcommand_rows_of}
use Rattle.clap.proofs.WalkLemmas.{first_value-rows}
use Rattle.words.specs.Words.{word_in}
use Rattle.words.proofs.WordsLemmas.{AreOf-same, if-AreOf-same, named}
use Rattle.words.proofs.settings.command_settings.Goals as goal

pub returns-in-run-clause-said : goal.returns-in-run-clause-said
returns-in-run-clause-said c =
    let found = found_of c.in_ok-name.words.now in
    let rows : Some (rows_of found) ≡ option_map (λ p. p.1) (subcommand_rows_of c.args.matches.now) = c.in_ok-name.ensures.rows in
    let name : Some c.in_ok-name.name.now ≡ option_map (λ p. p.0) (subcommand_rows_of c.args.matches.now) =
    c.in_ok-name.ensures.name ∙ named c.args.matches.now in
    if-AreOf-same _ _ (first_value found) (word_in (option_map (λ p. p.1) (subcommand_rows_of c.args.matches.now)))
    (sym (ap Some c.in-run.is) ∙ name)
    (λ id. first_value-rows found id ∙ ap (λ o. word_in o id) rows) c.run_settings.result c.run_settings.ensures.said

pub returns-in-run-clause-none : goal.returns-in-run-clause-none
returns-in-run-clause-none c none settings said within =
    let found = found_of c.in_ok-name.words.now in
    let rows : Some (rows_of found) ≡ option_map (λ p. p.1) (subcommand_rows_of c.args.matches.now) = c.in_ok-name.ensures.rows in
    let name : Some c.in_ok-name.name.now ≡ option_map (λ p. p.0) (subcommand_rows_of c.args.matches.now) =
    c.in_ok-name.ensures.name ∙ named c.args.matches.now in
    c.run_settings.ensures.none none settings
    (AreOf-same _ _ (word_in (option_map (λ p. p.1) (subcommand_rows_of c.args.matches.now))) (first_value found)
    (sym name ∙ ap Some c.in-run.is)
    (λ id. sym (first_value-rows found id ∙ ap (λ o. word_in o id) rows)) settings said) within

pub returns-in-recover-clause-said : goal.returns-in-recover-clause-said
returns-in-recover-clause-said c =
    let found = found_of c.in_ok-name.words.now in
    let rows : Some (rows_of found) ≡ option_map (λ p. p.1) (subcommand_rows_of c.args.matches.now) = c.in_ok-name.ensures.rows in
    let name : Some c.in_ok-name.name.now ≡ option_map (λ p. p.0) (subcommand_rows_of c.args.matches.now) =
    c.in_ok-name.ensures.name ∙ named c.args.matches.now in
    if-AreOf-same _ _ (first_value found) (word_in (option_map (λ p. p.1) (subcommand_rows_of c.args.matches.now)))
    (sym (ap Some c.in-recover.is) ∙ name)
    (λ id. first_value-rows found id ∙ ap (λ o. word_in o id) rows) c.recover_settings.result c.recover_settings.ensures.said

pub returns-in-recover-clause-none : goal.returns-in-recover-clause-none
returns-in-recover-clause-none c none settings said within =
    let found = found_of c.in_ok-name.words.now in
    let rows : Some (rows_of found) ≡ option_map (λ p. p.1) (subcommand_rows_of c.args.matches.now) = c.in_ok-name.ensures.rows in
    let name : Some c.in_ok-name.name.now ≡ option_map (λ p. p.0) (subcommand_rows_of c.args.matches.now) =
    c.in_ok-name.ensures.name ∙ named c.args.matches.now in
    c.recover_settings.ensures.none none settings
    (AreOf-same _ _ (word_in (option_map (λ p. p.1) (subcommand_rows_of c.args.matches.now))) (first_value found)
    (sym name ∙ ap Some c.in-recover.is)
    (λ id. sym (first_value-rows found id ∙ ap (λ o. word_in o id) rows)) settings said) within
