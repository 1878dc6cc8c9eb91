use Rattle.std.proofs.Common.{◌≡◌}
use Rattle.std.specs.Prelude.{map, count_by}
use Rattle.values.specs.Shape.{names_of, types_of}
use Rattle.inputs.proofs.header.schema_named.Given as goal

-- the names, the types and the number of key columns so far
abbrev pub invariant-loop-heading : goal.invariant-loop-heading
invariant-loop-heading l = record {
  names : names_of l.cols.items ≡ map (λ heading. heading.name) l.yielded;
  types : types_of l.cols.items ≡ map (λ heading. heading.column) l.yielded;
  key_cols : l.key_cols ≡ count_by (λ heading. heading.is_key) l.yielded;
}
