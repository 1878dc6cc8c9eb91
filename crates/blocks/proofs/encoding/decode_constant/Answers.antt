use Rattle.std.proofs.Common.{rules}
use Rattle.blocks.proofs.encoding.decode_constant.Goals as goal

pub returns-in_err-one-clause-first : goal.returns-in_err-one-clause-first
returns-in_err-one-clause-first c = search rules

pub repeat-requires-clause-one : goal.repeat-requires-clause-one
repeat-requires-clause-one c = search rules

pub returns-clause-first : goal.returns-clause-first
returns-clause-first c = search rules
