use Rattle.std.proofs.Common.{length, sym, ap, ◌∙◌}
use Rattle.blocks.proofs.BitsLemmas.{length-truths}
use Rattle.blocks.proofs.bits.Bits.len.Goals as goal

pub returns : goal.returns
returns c = sym (length-truths c.self.inside.count c.self.inside.bytes.items c.self.invariant.whole) ∙ ap length c.self.view_is
