use Rattle.std.proofs.Common.{◌∙◌, sym, subst, arith}
use Rattle.stable.specs.Stable.{Stable}
use Rattle.delta.specs.Tree.{Tree}
use Rattle.merge.specs.Image.{IsLayer, AreStacked}
use Rattle.txn.specs.Version.{Lower, lower_table}
use Rattle.txn.proofs.VersionLemmas.{stacked}
use Rattle.txn.proofs.version.Base.layers.Goals as goal
use Rattle.std.proofs.lemmas.Grind.{common_steps}

pub new-requires : goal.new-requires
new-requires c = grind (arith, common_steps, c.requires, c.deref.ensures, c.tree.ensures, c.deref-2.ensures, c.deref-3.ensures, c.self.invariant, stacked)
