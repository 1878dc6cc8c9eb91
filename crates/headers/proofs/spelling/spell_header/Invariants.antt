use Rattle.std.proofs.Common.{◌≡◌, ◌<◌, ◌++◌, ℕ, [], true, drop, get_or, length}
use Rattle.headers.specs.Spelling.{cells_text, header_text, is_name}
use Rattle.headers.proofs.spelling.spell_header.Given as goal

abbrev pub invariant-loop-col : goal.invariant-loop-col
invariant-loop-col l = record {
  spelt : l.text.items ++ cells_text l.schema.key_cols l.col (drop l.col l.schema.names) (drop l.col l.schema.types) ≡ header_text l.schema;
  names : (i : ℕ) → i < l.col → is_name (get_or l.schema.names i []) ≡ true;
  within : l.col-end ≡ length l.schema.types;
}
