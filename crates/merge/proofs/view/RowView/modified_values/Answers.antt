use Rattle.std.proofs.Common.{◌≡◌, ◌∙◌, None, ap, length, rules}
use Rattle.std.specs.Prelude.{replicate}
use Rattle.merge.specs.View.{layer_cells, row_of, values_of, with_cells}
use Rattle.merge.proofs.ViewLemmas.{values_of-replicate}
use Rattle.merge.proofs.view.RowView.modified_values.Goals as goal

pub returns : goal.returns
returns c =
    let v = c.args.self.now in
    let none : values_of c.in_ok-values.values.items ≡ replicate (length (row_of v)) None =
    ap values_of (c.in_ok-values.ensures.items_if_clones_equal (λ y clone. search rules)) ∙ values_of-replicate c.width.result
    ∙ ap (λ n. replicate n None) c.width.ensures in
    c.put_into-3.ensures
    ∙ ap (with_cells (layer_cells v.trans))
    (c.put_into-2.ensures ∙ ap (with_cells (layer_cells v.write)) (c.put_into.ensures ∙ ap (with_cells (layer_cells v.read)) none))
