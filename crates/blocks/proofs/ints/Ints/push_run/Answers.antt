use Rattle.std.proofs.Common.{ℤ, arith}
use Rattle.std.proofs.lemmas.List.{append-nil, length-replicate, nil_from_length}
use Rattle.std.proofs.lemmas.Bool.{eqb-true}
use Rattle.blocks.proofs.ZerosLemmas.{zeros_with_run}
use Rattle.blocks.proofs.ints.Ints.push_run.Goals as goal
use Rattle.std.proofs.lemmas.Grind.{common_steps}

-- zeros behind zeros
pub returns-then-is_empty-2-clause-ok : goal.returns-then-is_empty-2-clause-ok
returns-then-is_empty-2-clause-ok c = grind (arith, common_steps, c.is_empty-then-is_empty.ensures, c.if-is_empty-2.true, c.is_empty.ensures, c.if-is_empty.true, c.requires.within, nil_from_length, eqb-true, append-nil, length-replicate, zeros_with_run, ℤ)
