use Rattle.std.proofs.Common.{◌≡◌, replicate}
use Rattle.values.specs.Lent.{value_of}
use Rattle.blocks.proofs.encoding.repeat.Given as goal

-- the block has the value so many times
abbrev pub invariant-loop : goal.invariant-loop
invariant-loop l = (l.block.ty ≡ l.one.ty) × (l.block.values ≡ replicate l.counter (value_of l.value))
