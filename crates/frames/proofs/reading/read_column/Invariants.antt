use Rattle.std.proofs.Common.{length, ◌≤◌, [], Some}
use Rattle.blocks.specs.Payload.{AreBytes}
use Rattle.frames.specs.Reading.{parts_after, frames_of}
use Rattle.frames.proofs.ReadLemmas.{IsReadTo}
use Rattle.frames.proofs.reading.read_column.Given as goal

abbrev pub invariant-loop-rest : goal.invariant-loop-rest
invariant-loop-rest l = record {
  left : length l.rest ≤ length l.bytes;
  bytes : AreBytes l.rest;
  read : IsReadTo l.col (Some l.ty) (length l.bytes) l.seam l.rest l.parts.items (parts_after [] (frames_of l.col (Some l.ty) l.bytes));
}

abbrev pub decreases-loop-rest : goal.decreases-loop-rest
decreases-loop-rest l = length l.rest
