use Rattle.std.proofs.Common.{◌≡◌}
use Rattle.inputs.specs.Plain.{unseen}
use Rattle.inputs.proofs.plain.no_kinds.Given as goal

abbrev pub invariant-loop : goal.invariant-loop
invariant-loop l = l.kinds.items ≡ unseen l.counter
