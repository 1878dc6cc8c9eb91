use Rattle.std.proofs.Common.{arith}
use Rattle.std.proofs.lemmas.Grind.{common_steps}
use Rattle.devices.proofs.EndLemmas.{StoresAs-ended}
use Rattle.devices.proofs.device.ended.Goals as goal

pub returns-then-failures-eq0-clause-stored : goal.returns-then-failures-eq0-clause-stored
returns-then-failures-eq0-clause-stored c = StoresAs-ended c.args.contents.items c.push.new.self.items (grind (arith, common_steps))
