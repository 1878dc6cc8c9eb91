use Rattle.std.proofs.Common.{◌≡◌, ◌≤◌, drop, length}
use Rattle.codec.specs.Reading.{cells_at}
use Rattle.codec.proofs.LoopLemmas.{cells_after}
use Rattle.codec.proofs.cells.cells_at.Given as goal

abbrev pub invariant-loop-ty : goal.invariant-loop-ty
invariant-loop-ty l = record {
  within : length l.rest ≤ length l.bytes;
  read : cells_after l.values.items (cells_at (drop l.ty-index l.types) l.end l.rest) ≡ cells_at l.types l.end l.bytes;
}
