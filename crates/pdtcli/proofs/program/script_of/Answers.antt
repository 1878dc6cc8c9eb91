use Rattle.std.proofs.Common.{rules}
use Rattle.pdtcli.proofs.program.script_of.Goals as goal

pub returns-in_err-read_script-clause-refused : goal.returns-in_err-read_script-clause-refused
returns-in_err-read_script-clause-refused c = search rules

pub returns-clause-ok : goal.returns-clause-ok
returns-clause-ok c = search rules
