use Rattle.std.proofs.Common.{◌∙◌, ap, arith}
use Rattle.blocks.proofs.SpreadLemmas.{spread, spread-byte_truths}
use Rattle.blocks.proofs.bits.truths_in.Goals as goal

pub returns : goal.returns
returns c = c.to_le_bytes.ensures ∙ ap spread c.from-copies.ensures ∙ spread-byte_truths c.args.byte (omega (arith, c.ranges.byte.fits))
