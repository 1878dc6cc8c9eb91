use Rattle.std.proofs.Common.{◌∙◌, ap, arith}
use Rattle.std.specs.Prelude.{slice_get}
use Rattle.merge.specs.View.{own_cells, source_row}
use Rattle.merge.proofs.ModifiedLemmas.{slice_get-row}
use Rattle.merge.proofs.ViewLemmas.{found_in, length-row_of, or_else}
use Rattle.merge.proofs.view.RowView.value.Goals as goal

pub returns-in-Some : goal.returns-in-Some
returns-in-Some c =
    let v = c.args.self.now in
    let found = found_in c.args.col (own_cells v) _ _ c.modified_value.ensures c.in-Some.is in
    slice_get-row v c.args.col c.requires ∙ ap (λ o. or_else o (slice_get (source_row v.source) c.args.col)) found

pub source_value-requires : goal.source_value-requires
source_value-requires c = omega (arith, length-row_of c.args.self.now, c.requires)

pub returns-in-None : goal.returns-in-None
returns-in-None c =
    let v = c.args.self.now in
    let found = found_in c.args.col (own_cells v) _ _ c.modified_value.ensures c.in-None.is in
    slice_get-row v c.args.col c.requires
    ∙ ap (λ o. or_else o (slice_get (source_row v.source) c.args.col)) found
    ∙ c.source_value.ensures
