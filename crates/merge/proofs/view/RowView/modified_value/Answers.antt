use Rattle.std.proofs.Common.{◌∙◌, sym, ap, arith}
use Rattle.merge.specs.View.{layer_cells}
use Rattle.merge.proofs.ModifiedLemmas.{in_read, in_write, own_cell}
use Rattle.merge.proofs.ViewLemmas.{found_in, or_else}
use Rattle.merge.proofs.view.RowView.modified_value.Goals as goal
use Rattle.std.proofs.lemmas.Grind.{common_steps}

pub returns-in-Some : goal.returns-in-Some
returns-in-Some c =
    let v = c.args.self.now in
    let col = c.args.col in
    let in_trans = found_in col (layer_cells v.trans) _ _ c.value.ensures c.in-Some.is in
    sym (own_cell v col ∙ ap (λ o. or_else o (or_else (in_write v col) (in_read v col))) in_trans)

pub returns-in-Some-value : goal.returns-in-Some-value
returns-in-Some-value c = grind (arith, common_steps, c.value.ensures, c.in_default.is, c.value-2.ensures, c.in-Some-value.is, found_in, in_write, own_cell, or_else, in_read)

pub returns : goal.returns
returns c =
    let v = c.args.self.now in
    let col = c.args.col in
    let in_trans = found_in col (layer_cells v.trans) _ _ c.value.ensures c.in_default.is in
    let in_write = found_in col (layer_cells v.write) _ _ c.value-2.ensures c.in_default-value.is in
    let in_read = sym c.value-3.ensures in
    sym (own_cell v col ∙ (λ i. or_else (in_trans i) (or_else (in_write i) (in_read i))))
