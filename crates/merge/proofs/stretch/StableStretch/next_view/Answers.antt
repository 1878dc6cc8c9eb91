use Rattle.std.proofs.Common.{◌∙◌, ◌∷◌, ◌+◌, ◌-◌, take, drop, ap, sym}
use Rattle.values.specs.declared.row.Row.{Row}
use Rattle.merge.proofs.StretchLemmas.{stretch_next}
use Rattle.merge.proofs.stretch.StableStretch.next_view.Goals as goal

pub returns-clause-rows : goal.returns-clause-rows
returns-clause-rows c =
    let stretch = c.args.self.now in
    stretch_next stretch c.requires
    ∙ ap (λ (row : Row). row ∷ take (stretch.len - 1) (drop (stretch.sid + 1) stretch.table.now.rows))
    (sym c.stable-view.ensures.row)
