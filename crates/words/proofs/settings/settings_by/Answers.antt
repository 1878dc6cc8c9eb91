use Rattle.std.proofs.Common.{◌∙◌, ap, map, refl, sym}
use Rattle.std.specs.Option.{option_map}
use Rattle.clap.specs.Words.{App, fault_of, kind_of, is_simple, is_simple_and_free, subcommand_of, takes}
use Rattle.words.specs.Words.{word_in}
use Rattle.words.proofs.WordsLemmas.{usage-simple, usage-free, AreOf-same, if-told}
use Rattle.words.proofs.settings.settings_by.Goals as goal

pub returns-in-Some-clause-said : goal.returns-in-Some-clause-said
returns-in-Some-clause-said c =
    let is = c.requires in
    let words = map (λ word. word.now) c.args.words.now in
    let read = (c.in_ok-matches.ensures.ok.2 (ap is_simple is ∙ usage-simple)).1 ∙ ap (λ (a : App). subcommand_of a words) is in
    let said = rw c.in-Some.is at c.command_settings.ensures.said in
    AreOf-same _ _ _ _ (ap (λ o. option_map (λ p. p.0) o) read) (λ id. ap (λ o. word_in (option_map (λ p. p.1) o) id) read)
    c.in-Some.settings said

pub returns-in_err-matches-clause-taken : goal.returns-in_err-matches-clause-taken
returns-in_err-matches-clause-taken c =
    let is = c.requires in
    let words = map (λ word. word.now) c.args.words.now in
    if-told c.from_residual.result _ _
    (λ error told settings asked. ap kind_of told ∙ c.in_err-matches.ensures.passes (ap (λ (a : App). takes a words) is ∙ asked.taken))
    c.from_residual.ensures.1

pub returns-in_err-error-in-None-clause-taken : goal.returns-in_err-error-in-None-clause-taken
returns-in_err-error-in-None-clause-taken c =
    if-told c.from_residual-in_err-error-in-None.result _ _ (λ error kind settings asked. kind)
    c.from_residual-in_err-error-in-None.ensures.1

pub returns-in-Some-clause-faultless : goal.returns-in-Some-clause-faultless
returns-in-Some-clause-faultless c =
    let is = c.requires in
    let words = map (λ word. word.now) c.args.words.now in
    sym (ap (λ (a : App). fault_of a words) is) ∙ c.in_ok-matches.ensures.kinds (ap is_simple_and_free is ∙ usage-free)

pub returns-clause-taken : goal.returns-clause-taken
returns-clause-taken c settings asked =
    let is = c.requires in
    let words = map (λ word. word.now) c.args.words.now in
    let read = (c.in_ok-matches.ensures.ok.2 (ap is_simple is ∙ usage-simple)).1 ∙ ap (λ (a : App). subcommand_of a words) is in
    let said = AreOf-same _ _ _ _ (sym (ap (λ o. option_map (λ p. p.0) o) read))
    (λ id. sym (ap (λ o. word_in (option_map (λ p. p.1) o) id) read)) settings asked.said in
    absurd ((rw c.in-None.is at c.command_settings.ensures.none) refl settings said asked.within)
