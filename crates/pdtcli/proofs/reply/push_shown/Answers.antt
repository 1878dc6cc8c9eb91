use Rattle.std.proofs.Common.{◌≡◌, ◌++◌, ◌∷◌, ◌+◌, [], codes, get_or, map, take, sym, ap, ◌∙◌, subst, arith}
use Rattle.std.proofs.lemmas.List.{take_more, take_all, map-append}
use Rattle.std.proofs.lemmas.Option.{get_or_from_slice_get, slice_get_within}
use Rattle.values.specs.Lent.{value_of}
use Rattle.values.specs.Shown.{cell_text}
use Rattle.values.specs.declared.row.Row.{Row}
use Rattle.inputs.specs.Reading.{Fields}
use Rattle.pdtcli.specs.Records.{TakesFields}
use Rattle.pdtcli.specs.Replies.{call_fields}
use Rattle.pdtcli.proofs.RecordsLemmas.{TakesFields-trans}
use Rattle.pdtcli.proofs.reply.push_shown.Goals as goal

pub loop-col-preserved : goal.loop-col-preserved
loop-col-preserved c =
    let row : Row = get_or c.args.rows.now c.args.at [] in
    let clients = c.args.clients.now in
    let line = c.args.line.now in
    let col = c.loop-col.col in
    let v = value_of c.value.result in
    let longer : take (col + 1) row ≡ take col row ++ v ∷ [] =
    take_more row col v (slice_get_within row col v c.value.ensures)
    ∙ ap (λ w. take col row ++ w ∷ []) (get_or_from_slice_get row col v v c.value.ensures) in
    subst (λ (z : Fields). TakesFields c.args.records.now c.push_cell.new.records (call_fields clients line (codes "Row" ∷ z)))
    (sym (ap (map cell_text) longer ∙ map-append cell_text (take col row) (v ∷ [])))
    (TakesFields-trans _ _ _ (call_fields clients line (codes "Row" ∷ map cell_text (take col row))) (cell_text v ∷ [])
    c.loop-col.invariant c.in_ok-push_cell.ensures)

pub returns : goal.returns
returns c =
    let row : Row = get_or c.args.rows.now c.args.at [] in
    subst (λ (r : Row). TakesFields c.args.records.now c.loop-col.records
    (call_fields c.args.clients.now c.args.line.now (codes "Row" ∷ map cell_text r)))
    (take_all c.loop-col.col row (omega (arith, c.width-col-end.ensures, c.loop-col-test.false))) c.loop-col.invariant
