use Rattle.std.proofs.Common.{◌≡◌, ◌<◌, ℕ, [], true, get_or, map, take, length}
use Rattle.values.specs.Shape.{names_of, types_of}
use Rattle.headers.specs.Spelling.{is_name}
use Rattle.headers.proofs.naming.named_schema.Given as goal

abbrev pub invariant-loop-col : goal.invariant-loop-col
invariant-loop-col l = record {
  named : names_of l.cols.items ≡ map (λ n. n.now) (take l.col l.names);
  typed : types_of l.cols.items ≡ take l.col l.types;
  names : (i : ℕ) → i < l.col → is_name (get_or (map (λ n. n.now) l.names) i []) ≡ true;
  within : l.col-end ≡ length l.names;
}
