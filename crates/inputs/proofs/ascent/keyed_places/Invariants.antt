use Rattle.std.proofs.Common.{◌≡◌, map}
use Rattle.std.specs.List.{range_with_len}
use Rattle.inputs.specs.Filling.{keyed_at}
use Rattle.inputs.proofs.ascent.keyed_places.Given as goal

abbrev pub invariant-loop-place : goal.invariant-loop-place
invariant-loop-place l = l.keyed.items ≡ map (keyed_at l.column) (range_with_len 0 l.place)
