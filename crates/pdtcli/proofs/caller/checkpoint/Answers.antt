use Rattle.std.proofs.Common.{rules}
use Rattle.pdtcli.proofs.caller.checkpoint.Goals as goal

pub returns-clause-stored : goal.returns-clause-stored
returns-clause-stored g c = search rules
