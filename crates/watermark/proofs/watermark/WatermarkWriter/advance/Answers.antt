use Rattle.std.proofs.Common.{[], ◌∷◌, rules, sym, ◌∙◌, arith}
use Rattle.watermark.proofs.Moves.{advances_as}
use Rattle.watermark.proofs.watermark.WatermarkWriter.advance.Goals as goal

pub swap_as-requires : goal.swap_as-requires
swap_as-requires g c =
    let i = c.self.invariant in
    (search rules, (search rules, (i.0 ∙ sym c.watermark.invariant, advances_as _ _ c.self.inside.number (c.args.to ∷ []) i.1 (let le = c.requires in let v = c.self.view_is in omega (arith, le, v)))))
