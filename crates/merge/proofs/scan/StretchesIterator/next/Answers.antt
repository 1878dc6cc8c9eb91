use Rattle.std.proofs.Common.{◌∙◌, ◌-◌, ◌++◌, List, take, ap, sym}
use Rattle.values.specs.declared.row.Row.{Row}
use Rattle.merge.specs.Stretches.{stretch_rows}
use Rattle.merge.specs.Left.{image_left}
use Rattle.merge.proofs.StretchLemmas.{take_append, stretch_some}
use Rattle.merge.proofs.scan.StretchesIterator.next.Goals as goal

pub returns-clause-steps : goal.returns-clause-steps
returns-clause-steps c =
    let stretch = c.next_stretch-stretch.result in
    let left : List Row = image_left c.next_stretch-stretch.new.self in
    let is = c.next_stretch-stretch.ensures.stretch in (
      sym c.self.view_is
          ∙ ap (take c.self.inside.left) c.next_stretch-stretch.ensures.rows
          ∙ take_append c.self.inside.left (stretch_rows stretch) left c.next_stretch-stretch.ensures.most
          ∙ ap (λ n. stretch_rows stretch ++ take (c.self.inside.left - n) left) (sym c.count.ensures),
      stretch_some 3 stretch is,
      is,
    )
