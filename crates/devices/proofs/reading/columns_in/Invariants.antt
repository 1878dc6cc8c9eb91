use Rattle.std.proofs.Common.{◌≡◌, ◌++◌, map}
use Rattle.devices.specs.Stored.{columns_in}
use Rattle.devices.proofs.reading.columns_in.Given as goal

-- the columns so far
abbrev pub invariant-loop-parts : goal.invariant-loop-parts
invariant-loop-parts l = record {
  taken : l.yielded ++ l.parts-iterator.rest.items ≡ l.fn.columns.items;
  made : l.made.items ≡ columns_in l.generation l.types (map (λ p. p.items) l.yielded);
}
