use Rattle.std.proofs.Common.{◌≡◌, take, map}
use Rattle.inputs.specs.Plain.{or_text}
use Rattle.inputs.proofs.plain.kinds_shown.Given as goal

abbrev pub invariant-loop-kind : goal.invariant-loop-kind
invariant-loop-kind l = l.types.items ≡ map or_text (take l.kind-index l.kinds)
