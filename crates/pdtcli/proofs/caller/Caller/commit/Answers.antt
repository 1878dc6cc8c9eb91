use Rattle.std.proofs.Common.{rules}
use Rattle.pdtcli.proofs.caller.Caller.commit.Goals as goal

pub returns-in-Err : goal.returns-in-Err
returns-in-Err c = search rules
