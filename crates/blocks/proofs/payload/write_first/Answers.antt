use Rattle.std.proofs.Common.{arith}
use Rattle.blocks.proofs.EncodingLemmas.{first_truth}
use Rattle.blocks.proofs.payload.write_first.Goals as goal
use Rattle.blocks.proofs.payload.write_first.Goals.{then-get, else-get}
use Rattle.std.proofs.lemmas.Grind.{common_steps}

pub returns-in_ok-push-in-Truths-clause-ok : goal.returns-in_ok-push-in-Truths-clause-ok
returns-in_ok-push-in-Truths-clause-ok c =
    grind (arith, common_steps, c.in-Truths.is, c.get.ensures, c.in_ok-push-in-Truths.ensures.items, first_truth)
