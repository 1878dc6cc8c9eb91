use Rattle.std.proofs.Common.{◌≡◌, ◌++◌}
use Rattle.blocks.specs.Column.{Column}
use Rattle.devices.specs.Stored.{values_in}
use Rattle.devices.proofs.reading.column_in.Given as goal

-- the values of the generation so far
abbrev pub invariant-loop-part : goal.invariant-loop-part
invariant-loop-part l = record {
  taken : l.yielded ++ l.part-iterator.rest.items ≡ l.fn.parts.items;
  column : ◌≡◌ {A = Column} l.column (record { ty = l.fn.ty; values = values_in l.generation l.yielded });
}
