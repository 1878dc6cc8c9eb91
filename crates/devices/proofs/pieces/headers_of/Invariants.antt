use Rattle.std.proofs.Common.{◌≡◌, map, take}
use Rattle.devices.specs.Image.{headers_of}
use Rattle.devices.proofs.pieces.headers_of.Given as goal

abbrev pub invariant-loop-ty : goal.invariant-loop-ty
invariant-loop-ty l = map (λ p. p.items) l.headers.items ≡ headers_of (take l.ty-index l.types)
