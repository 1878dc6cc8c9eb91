use Rattle.std.proofs.Common.{◌∙◌, ◌-◌, length, take, drop, ap}
use Rattle.std.specs.Prelude.{min}
use Rattle.merge.specs.Image.{Stack, image_rows}
use Rattle.merge.proofs.RangeLemmas.{cut_range}
use Rattle.merge.proofs.layers.Layers.stretches.Goals as goal

pub returns : goal.returns
returns c =
    let rows = image_rows c.args.self.now in
    let count = c.self.invariant.counted ∙ ap (λ (s : Stack). length (image_rows s)) c.self.view_is in
    let start = c.min-start.ensures ∙ ap (min c.args.from) count in
    let end = c.min-end.ensures ∙ ap (min c.args.to) count in
    let many = c.saturating_sub.ensures ∙ (λ i. end i - start i) in
    c.new.ensures
    ∙ ap (take c.saturating_sub.result) c.rows_from.ensures.rows
    ∙ (λ i. take (many i) (drop (start i) rows))
    ∙ cut_range c.args.from c.args.to rows
