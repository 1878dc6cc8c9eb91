use Rattle.counted.proofs.Places.{levels_law}
use Rattle.counted.proofs.node.Node.levels.Goals as goal

pub returns : goal.returns
returns c = levels_law c.self.inside.body c.args.self.now c.self.view_is c.self.invariant
