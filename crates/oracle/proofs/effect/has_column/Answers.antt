use Rattle.std.proofs.Common.{◌∙◌, ap, nat_cmp, is_some}
use Rattle.model.specs.Maps.{find}
use Rattle.oracle.proofs.effect.has_column.Goals as goal

pub returns : goal.returns
returns c = c.contains_key.ensures ∙ ap (λ cells. is_some (find nat_cmp c.args.col cells)) c.values.ensures
