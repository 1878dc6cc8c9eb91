use Rattle.std.proofs.Common.{◌+◌, ◌++◌, eqb, ap, ◌∙◌, arith}
use Rattle.blocks.specs.Column.{Column, IsBlock}
use Rattle.frames.specs.declared.frame.Format.TheVariants.{Second}
use Rattle.frames.specs.declared.frame.Frame.TheVariants.{Block}
use Rattle.frames.specs.Column.{frame_bytes}
use Rattle.devices.proofs.PiecesLemmas.{blocks_more, written_more}
use Rattle.devices.proofs.pieces.write_column.Goals as goal

pub loop-k-preserved : goal.loop-k-preserved
loop-k-preserved c = record {
  bytes =
      written_more c.args.generation c.args.column.now.ty c.args.column.now.values c.div_ceil-blocks.result c.loop-k.k
      c.reserve_numbers.new.out.items c.loop-k.out.items c.write_part-in-loop-k.new.out.items c.loop-k.invariant.bytes
      (c.in_ok-write_part.ensures
      ∙ ap (λ (b : Column). c.loop-k.out.items
      ++ frame_bytes (Block (record {
        format = Second;
        generation = c.args.generation;
        number = c.loop-k.k;
        last = eqb (c.loop-k.k + 1) c.div_ceil-blocks.result;
        block = b;
      }))) c.block-block.ensures);
  blocks =
      let held : IsBlock c.block-block.result.now =
      record { few = omega (arith, c.len-held.ensures.len, c.len-held.ensures.few); fit = c.len-held.ensures.fit } in
      blocks_more c.args.column.now.ty c.args.column.now.values c.loop-k.k c.block-block.result.now c.loop-k.invariant.blocks held
      c.block-block.ensures;
}
