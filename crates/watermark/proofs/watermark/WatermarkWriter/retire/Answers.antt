use Rattle.std.proofs.Common.{rules, sym, ap, ◌∙◌}
use Rattle.watermark.proofs.Moves.{gives, takes_in_as, compares}
use Rattle.watermark.proofs.watermark.WatermarkWriter.retire.Goals as goal

pub split_pass-pass-requires : goal.split_pass-pass-requires
split_pass-pass-requires g c =
    let i = c.reader.invariant in
    (search rules, (search rules, (i.0 ∙ sym c.watermark.invariant, gives _ _)))

pub join_pass-requires : goal.join_pass-requires
join_pass-requires g c =
    let i = c.self.invariant in
    let s = c.split_pass-pass.ensures in
    (search rules, (search rules, ((i.0 ∙ sym c.watermark.invariant, s.given.0 ∙ c.reader.invariant.0 ∙ sym i.0, s.given.2), takes_in_as _ _ _ _ _ i.1)))

pub load_as-requires : goal.load_as-requires
load_as-requires g c =
    let i = c.self.invariant in
    let j = c.join_pass.ensures in
    (search rules, (search rules, (j.0.0 ∙ i.0 ∙ sym c.watermark.invariant, compares _ _ (ap (λ v. v.writes) j.1 ∙ ap (λ v. v.writes) i.1))))
