use Rattle.std.proofs.Common.{rules}
use Rattle.layers.proofs.clash.compare_changes.Goals as goal

pub returns-in-Del-there : goal.returns-in-Del-there
returns-in-Del-there c = search rules
