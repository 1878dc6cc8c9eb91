use Rattle.std.proofs.Common.{arith}
use Rattle.blocks.proofs.LawsLemmas.{payload-truths}
use Rattle.blocks.proofs.payload.write_block.Goals as goal
use Rattle.std.proofs.lemmas.Grind.{common_steps}

pub returns-in_ok-extend_from_slice-in-Truths-clause-ok : goal.returns-in_ok-extend_from_slice-in-Truths-clause-ok
returns-in_ok-extend_from_slice-in-Truths-clause-ok c =
    grind (arith, common_steps, c.in-Truths.is, c.as_bytes.ensures, c.in_ok-extend_from_slice-in-Truths.ensures.items, payload-truths)
