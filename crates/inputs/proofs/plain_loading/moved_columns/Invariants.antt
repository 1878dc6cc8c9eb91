use Rattle.std.proofs.Common.{◌≡◌, drop}
use Rattle.inputs.specs.Plain.{arranged}
use Rattle.inputs.proofs.plain_loading.moved_columns.Given as goal

-- the places that are left make of these columns what all of them make of the first ones
abbrev pub invariant-loop-place : goal.invariant-loop-place
invariant-loop-place l = arranged l.moved l.fn.columns.items ≡ arranged (drop l.place-index l.moved) l.columns.items
