use Rattle.std.proofs.Common.{◌≡◌, ℕ, ◌<◌, ◌++◌}
use Rattle.blocks.specs.Column.{IsBlock}
use Rattle.stable.specs.Column.{block_at}
use Rattle.frames.specs.Column.{column_bytes}
use Rattle.devices.specs.Image.{first_frames}
use Rattle.devices.proofs.pieces.write_column.Given as goal

abbrev pub invariant-loop-k : goal.invariant-loop-k
invariant-loop-k l = record {
  bytes : l.out.items ≡ l.initial.out.items ++ column_bytes (first_frames l.generation l.column.ty l.column.values l.blocks l.k);
  blocks : (j : ℕ) → j < l.k → IsBlock (block_at l.column.ty l.column.values j);
}
