use Rattle.std.proofs.Common.{◌∙◌, Some, ap}
use Rattle.clap.specs.Words.{Rule, rule_of}
use Rattle.clap.specs.declared.builder.arg.Arg.{Arg}
use Rattle.clap.specs.declared.builder.value_parser.ValueParser.TheVariants.{NonEmptyString}
use Rattle.words.proofs.usage.folder_option.Goals as goal

pub returns-clause-rule : goal.returns-clause-rule
returns-clause-rule c =
    let given = c.value_parser.ensures.given in
    ap rule_of c.value_parser.ensures.others
    ∙ ap (λ q. record (rule_of c.option.result) { parser = q }) (given.1 ∙ ap Some given.2)
    ∙ ap (λ (r : Rule). record r { parser = Some NonEmptyString }) c.option.ensures.rule

pub returns-clause-local : goal.returns-clause-local
returns-clause-local c = ap (λ (a : Arg). a.global) c.value_parser.ensures.others ∙ c.option.ensures.local
