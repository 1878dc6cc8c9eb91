use Rattle.std.proofs.Common.{rules}
use Rattle.blocks.proofs.encoding.one_later.Goals as goal

pub returns-in-Short : goal.returns-in-Short
returns-in-Short c = search rules
