use Rattle.std.proofs.Common.{arith}
use Rattle.blocks.proofs.IntsLemmas.{ints_short, ints_long, ints_exact, map-int_of}
use Rattle.blocks.proofs.reading.read_ints.Goals as goal
use Rattle.std.proofs.lemmas.Grind.{common_steps}

pub returns-then-words-count-clause-first : goal.returns-then-words-count-clause-first
returns-then-words-count-clause-first c = grind (arith, common_steps, c.as_chunks.ensures.front_len, c.if-words-count.true, ints_short)

pub returns-then-bytes-count-clause-first : goal.returns-then-bytes-count-clause-first
returns-then-bytes-count-clause-first c = grind (arith, common_steps, ints_long)

pub returns-clause-first : goal.returns-clause-first
returns-clause-first c =
    grind (arith, common_steps, c.as_chunks.ensures.front_len, c.in_ok-ints_of.ensures, c.as_chunks.ensures.front, ints_exact, map-int_of)
