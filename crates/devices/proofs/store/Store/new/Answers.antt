use Rattle.std.proofs.Common.{arith}
use Rattle.std.proofs.lemmas.Grind.{common_steps}
use Rattle.devices.proofs.HeaderLemmas.{ready_first, stored_still}
use Rattle.devices.proofs.store.Store.new.Goals as goal

pub returns-in-Ok-clause-stored : goal.returns-in-Ok-clause-stored
returns-in-Ok-clause-stored g c = λ whole. stored_still c.args.first c.args.schema.now _ _ whole (grind (arith, common_steps))

pub returns-in-Ok-clause-ready : goal.returns-in-Ok-clause-ready
returns-in-Ok-clause-ready g c = λ whole. ready_first c.args.first c.args.schema.now _ _ whole (grind (arith, common_steps))
