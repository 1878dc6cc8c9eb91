use Rattle.std.proofs.Common.{◌≡◌}
use Rattle.values.specs.Shape.{names_of, types_of}
use Rattle.values.proofs.schema.split.Given as goal

-- the columns so far stand apart
abbrev pub invariant-loop-name : goal.invariant-loop-name
invariant-loop-name l = record {
  names : l.names.items ≡ names_of l.yielded;
  types : l.types.items ≡ types_of l.yielded;
}
