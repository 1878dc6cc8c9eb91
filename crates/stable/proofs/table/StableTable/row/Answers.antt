use Rattle.std.proofs.Common.{◌<◌, ◌++◌, ◌∷◌, [], Some, length, get_or, sym, ap, ◌∙◌, arith}
use Rattle.std.proofs.lemmas.List.{take_more, take_all}
use Rattle.std.proofs.lemmas.Option.{slice_get-get_or, get_or_from_slice_get, slice_get_within}
use Rattle.values.specs.Lent.{value_of}
use Rattle.values.specs.declared.row.Row.{Row}
use Rattle.stable.specs.Stable.{Stable}
use Rattle.stable.proofs.RowsLemmas.{length_rows, row_width}
use Rattle.stable.proofs.table.StableTable.row.Goals as goal

pub loop-col-preserved : goal.loop-col-preserved
loop-col-preserved c =
    let row : Row = get_or c.args.self.now.rows c.args.sid [] in
    let col = c.loop-col.col in
    let v = value_of c.value.result in
    let here = c.in_ok-copy.ensures.same ∙ sym (get_or_from_slice_get row col v v c.value.ensures) in
    c.in_ok-push.ensures.items
    ∙ (λ i. c.loop-col.invariant i ++ here i ∷ [])
    ∙ sym (take_more row col v (slice_get_within row col v c.value.ensures))

pub returns : goal.returns
returns c =
    let inside = c.self.inside in
    let s = c.args.self.now in
    let row : Row = get_or s.rows c.args.sid [] in
    let present : c.args.sid < inside.count =
    omega
    (arith, c.requires, ap (λ (t : Stable). length t.rows) c.self.view_is, length_rows inside.count inside.columns.items) in
    let wide =
    ap (λ (t : Stable). length (get_or t.rows c.args.sid [])) (sym c.self.view_is)
    ∙ row_width inside.schema inside.count inside.columns.items c.self.invariant c.args.sid present in
    slice_get-get_or s.rows c.args.sid [] c.requires
    ∙ ap Some
    (sym (c.new.ensures
    ∙ c.loop-col.invariant
    ∙ take_all c.loop-col.col row (omega (arith, wide, c.width-width.ensures.columns, c.loop-col-test.false))))
