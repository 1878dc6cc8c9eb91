use Rattle.std.proofs.Common.{◌≡◌, take}
use Rattle.shared.proofs.store.are_same.Given as goal

abbrev pub invariant-loop-col : goal.invariant-loop-col
invariant-loop-col l = (take l.col l.one.types ≡ take l.col l.other.types) × (take l.col l.one.names ≡ take l.col l.other.names)
