use Rattle.std.proofs.Common.{◌≡◌}
use Rattle.model.specs.Composition.{composed_effects}
use Rattle.oracle.proofs.effects.Effects.composed.Given as goal

abbrev pub invariant-loop-key : goal.invariant-loop-key
invariant-loop-key l = composed_effects l.composed l.key-iterator ≡ composed_effects l.fn.self l.fn.later
