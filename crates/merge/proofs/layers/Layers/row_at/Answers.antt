use Rattle.std.proofs.Common.{◌≡◌, ◌∙◌, ◌++◌, ◌∷◌, List, drop, ap, sym, arith}
use Rattle.std.proofs.lemmas.Option.{slice_get_past}
use Rattle.values.specs.declared.row.Row.{Row}
use Rattle.merge.specs.Image.{image_rows}
use Rattle.merge.specs.View.{row_of}
use Rattle.merge.specs.Stretches.{stretch_rows}
use Rattle.merge.specs.Left.{image_left}
use Rattle.merge.proofs.CursorLemmas.{slice_get-drop}
use Rattle.merge.proofs.layers.Layers.row_at.Goals as goal
use Rattle.std.proofs.lemmas.Grind.{common_steps}

pub returns-then-rid-self : goal.returns-then-rid-self
returns-then-rid-self c =
    let rows = image_rows c.args.self.now in
    let stretch = stretch_rows c.next_stretch.result in
    let left : List Row = image_left c.next_stretch.new.self in
    let next : drop c.args.rid rows ≡ row_of c.first.result ∷ (drop 1 stretch ++ left) =
    sym c.rows_from-rows.ensures.rows
    ∙ c.next_stretch.ensures.rows
    ∙ ap (λ (xs : List Row). xs ++ left) c.first.ensures.row in
    sym (slice_get-drop rows c.args.rid (row_of c.first.result) (drop 1 stretch ++ left) next)

pub returns-else-rid-self : goal.returns-else-rid-self
returns-else-rid-self c = grind (arith, common_steps, c.self.invariant.counted, c.if-rid-self.false, slice_get_past)
