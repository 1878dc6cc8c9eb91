use Rattle.counted.proofs.Places.{levels_law}
use Rattle.counted.proofs.node.Node.read.Goals as goal

pub returns-clause-levels : goal.returns-clause-levels
returns-clause-levels g c = levels_law c.self.inside.body c.args.self.now c.self.view_is c.self.invariant
