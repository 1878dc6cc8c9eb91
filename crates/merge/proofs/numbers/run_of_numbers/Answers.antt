use Rattle.std.proofs.Common.{◌∙◌, map, sym, ap}
use Rattle.merge.specs.Packed.{number_of}
use Rattle.merge.specs.Runs.{run_values}
use Rattle.merge.specs.declared.run.Run.{Run}
use Rattle.merge.proofs.FillingLemmas.{numbers_int}
use Rattle.merge.proofs.numbers.run_of_numbers.Goals as goal

pub returns-in-Ints : goal.returns-in-Ints
returns-in-Ints c = sym (numbers_int c.in-Ints.ints.now) ∙ ap (λ (r : Run). map number_of (run_values r)) (sym c.in-Ints.is)
