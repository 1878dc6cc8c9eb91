use Rattle.std.proofs.Common.{rules}
use Rattle.layers.proofs.clash.columns_clash.Goals as goal

pub returns-in-ByColumn : goal.returns-in-ByColumn
returns-in-ByColumn c = search rules
