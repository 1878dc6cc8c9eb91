use Rattle.std.proofs.Common.{rules}
use Rattle.values.proofs.schema.Schema.check_row.Goals as goal

pub returns : goal.returns
returns c = search rules
