use Rattle.std.proofs.Common.{rules, sym, ◌∙◌}
use Rattle.watermark.proofs.Moves.{gives}
use Rattle.watermark.proofs.watermark.WatermarkWriter.reader.Goals as goal

pub split_pass-pass-requires : goal.split_pass-pass-requires
split_pass-pass-requires g c =
    let i = c.self.invariant in
    (search rules, (search rules, (i.0 ∙ sym c.watermark.invariant, gives _ _)))
