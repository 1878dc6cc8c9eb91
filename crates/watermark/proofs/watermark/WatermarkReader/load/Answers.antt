use Rattle.std.proofs.Common.{rules, sym, ◌∙◌}
use Rattle.watermark.proofs.Moves.{loads_as}
use Rattle.watermark.proofs.watermark.WatermarkReader.load.Goals as goal

pub load_as-requires : goal.load_as-requires
load_as-requires g c =
    let i = c.self.invariant in
    (search rules, (search rules, (i.0 ∙ sym c.watermark.invariant, loads_as _ _ c.self.inside.number i.1)))
