use Rattle.std.proofs.Common.{◌≡◌, map, take}
use Rattle.inputs.proofs.ascent.places_alone.Given as goal

abbrev pub invariant-loop-one : goal.invariant-loop-one
invariant-loop-one l = l.places.items ≡ map (λ k. k.place) (take l.one-index l.keyed)
