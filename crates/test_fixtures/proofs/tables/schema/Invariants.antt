use Rattle.std.proofs.Common.{◌≡◌, map, take}
use Rattle.values.specs.Shape.{names_of, types_of}
use Rattle.test_fixtures.proofs.tables.schema.Given as goal

abbrev pub invariant-loop-name : goal.invariant-loop-name
invariant-loop-name l = record {
  names : names_of l.named.items ≡ map (λ col. col.0.now) (take l.name-index l.cols);
  types : types_of l.named.items ≡ map (λ col. col.1) (take l.name-index l.cols);
}
