use Rattle.std.proofs.Common.{◌≡◌, ℕ, ◌<◌, map}
use Rattle.stable.specs.Rows.{column_at}
use Rattle.devices.specs.Image.{AreBlocks, first_pieces}
use Rattle.devices.proofs.pieces.pieces_of.Given as goal

abbrev pub invariant-loop-col : goal.invariant-loop-col
invariant-loop-col l = record {
  pieces : map (λ p. p.items) l.pieces.items ≡ first_pieces l.generation l.table l.col;
  blocks : (col : ℕ) → col < l.col → AreBlocks (column_at l.table.schema.types l.table.rows col);
}
