use Rattle.std.proofs.Common.{ap, ◌∙◌, arith}
use Rattle.delta.specs.BySid.{base_change}
use Rattle.delta.proofs.BySidLemmas.{modified_below, deletes-before-sought}
use Rattle.delta.proofs.tree.DeltaTree.find.Goals as goal
use Rattle.std.proofs.lemmas.Grind.{common_steps}

pub row_behind-requires-clause-few : goal.row_behind-requires-clause-few
row_behind-requires-clause-few c = grind (arith, common_steps, deletes-before-sought)

pub returns-clause-base : goal.returns-clause-base
returns-clause-base c =
    c.base_change-base.ensures ∙ ap (base_change c.args.sid) (c.entry.ensures c.args.self.now.entries c.place_of-place.ensures.rest)

pub returns-clause-small : goal.returns-clause-small
returns-clause-small c = grind (arith, common_steps, modified_below, returns-clause-base)
