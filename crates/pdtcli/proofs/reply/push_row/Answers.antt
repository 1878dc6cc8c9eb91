use Rattle.std.proofs.Common.{◌∷◌, [], codes, map, take, sym, ap, ◌∙◌, subst}
use Rattle.std.proofs.lemmas.List.{take_more, map-append}
use Rattle.values.specs.Shown.{cell_text}
use Rattle.values.specs.declared.row.Row.{Row}
use Rattle.inputs.specs.Reading.{Fields}
use Rattle.pdtcli.specs.Records.{TakesFields}
use Rattle.pdtcli.proofs.RecordsLemmas.{TakesFields-trans}
use Rattle.pdtcli.proofs.reply.push_row.Goals as goal

pub loop-cell-preserved : goal.loop-cell-preserved
loop-cell-preserved c =
    let cells : Row = c.args.cells.now in
    let at = c.loop-cell.cell-index in
    let cell = c.cell-item.result in
    let longer = rw (← c.cell-item.is) at (take_more cells at cell c.loop-cell-test.true) in
    subst (λ (z : Fields). TakesFields c.args.records.now c.push_cell.new.records (codes "Row" ∷ z))
    (sym (ap (map cell_text) longer ∙ map-append cell_text (take at cells) (cell ∷ [])))
    (TakesFields-trans _ _ _ (codes "Row" ∷ map cell_text (take at cells)) (cell_text cell ∷ []) c.loop-cell.invariant
    (rw c.as_ref.ensures at c.in_ok-push_cell.ensures))
