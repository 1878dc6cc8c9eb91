use Rattle.std.proofs.Common.{Some, ap}
use Rattle.clap.specs.Words.{Rule}
use Rattle.clap.specs.declared.builder.ArgAction.TheVariants.{Set}
use Rattle.words.proofs.usage.option.Goals as goal

pub returns-clause-rule : goal.returns-clause-rule
returns-clause-rule c =
    rw (c.action.ensures, c.value_name.ensures, c.long.ensures, c.help.ensures)
    (ap (λ (r : Rule). record r { long = Some c.args.id.now; value_names = 1; action = Some Set }) c.new.ensures.rule)

pub returns-clause-local : goal.returns-clause-local
returns-clause-local c = rw (c.action.ensures, c.value_name.ensures, c.long.ensures, c.help.ensures) c.new.ensures.optional.1
