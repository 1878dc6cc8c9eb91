use Rattle.std.proofs.Common.{arith}
use Rattle.std.proofs.lemmas.List.{length-drop, length-map, length-take}
use Rattle.std.proofs.Math.Seq.{take-append_seam}
use Rattle.merge.proofs.FillingLemmas.{numbers_int, numbers_truth, room_one}
use Rattle.merge.proofs.numbers.put_run.Goals as goal
use Rattle.std.proofs.lemmas.Grind.{common_steps}

pub returns-in-Ints-clause-numbers : goal.returns-in-Ints-clause-numbers
returns-in-Ints-clause-numbers c = grind (arith, common_steps, c.copy_from_slice.ensures.after, c.in-Ints.is, take-append_seam, numbers_int)

pub returns-in-Truths-clause-numbers : goal.returns-in-Truths-clause-numbers
returns-in-Truths-clause-numbers c = grind (arith, common_steps, c.requires.typed.0, c.in-Truths.is, c.requires.typed.2, c.requires.room, c.put_numbers.auto.out, c.put_numbers.ensures, length-map, length-take, length-drop, take-append_seam, numbers_truth)

pub returns-in-Value-clause-numbers : goal.returns-in-Value-clause-numbers
returns-in-Value-clause-numbers c = grind (arith, common_steps, c.requires.room, c.in-Value.is, c.number_of.ensures, room_one)
