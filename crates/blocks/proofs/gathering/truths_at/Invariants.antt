use Rattle.std.proofs.Common.{◌≡◌, map, take}
use Rattle.values.specs.declared.value.Value.TheVariants.{Bool as Truth}
use Rattle.blocks.specs.Places.{value_at}
use Rattle.blocks.proofs.gathering.truths_at.Given as goal

abbrev pub invariant-loop-place : goal.invariant-loop-place
invariant-loop-place l = map Truth l.truths ≡ map (value_at l.blocks) (take l.place-index l.places)
