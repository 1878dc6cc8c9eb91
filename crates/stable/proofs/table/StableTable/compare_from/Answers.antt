use Rattle.std.proofs.Common.{◌≡◌, ◌<◌, ◌+◌, false, Equal, [], length, get_or, take, drop, refl, sym, ap, ◌∙◌, arith}
use Rattle.std.specs.Ordering.{nat_cmp}
use Rattle.std.proofs.lemmas.List.{get_or-take, get_or_default, length-take}
use Rattle.std.proofs.lemmas.Option.{get_or_from_slice_get}
use Rattle.values.specs.Lent.{value_of}
use Rattle.values.specs.Orders.{key_cmp, value_cmp-IsAntisymmetric}
use Rattle.values.specs.declared.value.Value.TheVariants.{Bool as Truth}
use Rattle.stable.specs.Stable.{Stable}
use Rattle.stable.proofs.RowsLemmas.{length_rows, row_width}
use Rattle.stable.proofs.BelowLemmas.{compared, decided, ended}
use Rattle.stable.proofs.SpanLemmas.{drop_tied, more_cells, wide_rows}
use Rattle.stable.proofs.table.StableTable.compare_from.Goals as goal
use Rattle.std.proofs.lemmas.Grind.{common_steps}

pub loop-col-init : goal.loop-col-init
loop-col-init c = grind (arith, common_steps, c.self.invariant, c.key_cols-key_cols.ensures.lawful.key_within, c.requires.row, c.requires.tied, c.requires.key, c.requires.cell, wide_rows, drop_tied, length-take, get_or-take)

pub returns-in_default-clause-order : goal.returns-in_default-clause-order
returns-in_default-clause-order c =
    let s = c.args.self.now in
    let row = get_or s.rows c.args.sid [] in
    let key = c.args.key.now in
    let col = c.loop-col.col in
    let counted = c.key_cols-key_cols.ensures.count ∙ ap (λ (s : Stable). s.schema.key_cols) c.self.view_is in
    let lt : col < s.schema.key_cols = omega (arith, counted, c.loop-col-test.true, c.min-cells.ensures) in
    let within : col < length key = omega (arith, c.loop-col-test.true, c.min-cells.ensures) in
    sym
    (compared s.schema.key_cols row key key col (value_of c.value.result) (value_of c.as_ref-cell.result) c.index-key-col.result
    c.cmp.result refl lt within c.value.ensures c.index-key-col.is c.as_ref-cell.ensures (sym c.cmp.ensures)
    c.loop-col.invariant.tie
    ∙ decided c.cmp.result (key_cmp (drop (col + 1) (take s.schema.key_cols row)) (drop (col + 1) key)) c.in_default.not-Equal)

pub loop-col-preserved : goal.loop-col-preserved
loop-col-preserved c =
    let s = c.args.self.now in
    let key = c.args.key.now in
    let col = c.loop-col.col in
    let counted = c.key_cols-key_cols.ensures.count ∙ ap (λ (s : Stable). s.schema.key_cols) c.self.view_is in
    let lt : col < s.schema.key_cols = omega (arith, counted, c.loop-col-test.true, c.min-cells.ensures) in
    let within : col < length key = omega (arith, c.loop-col-test.true, c.min-cells.ensures) in
    let x = value_of c.value.result in
    let y = value_of c.as_ref-cell.result in
    let equal : x ≡ y = value_cmp-IsAntisymmetric x y (sym c.cmp.ensures ∙ c.in-Equal.is) in
    record {
      cells =
          more_cells col key (get_or s.rows c.args.sid []) c.loop-col.invariant.cells
          (get_or_from_slice_get (get_or s.rows c.args.sid []) col x (Truth false) c.value.ensures
          ∙ equal
          ∙ c.as_ref-cell.ensures
          ∙ c.index-key-col.is
          ∙ get_or_default key col c.index-key-col.result (Truth false) within);
      tie =
          compared s.schema.key_cols (get_or s.rows c.args.sid []) key key col x y c.index-key-col.result Equal refl lt within
          c.value.ensures c.index-key-col.is c.as_ref-cell.ensures (sym c.cmp.ensures ∙ c.in-Equal.is) c.loop-col.invariant.tie;
    }

pub returns-clause-order : goal.returns-clause-order
returns-clause-order c =
    let s = c.args.self.now in
    let inside = c.self.inside in
    let row = get_or s.rows c.args.sid [] in
    let n = s.schema.key_cols in
    let counted = c.key_cols-key_cols.ensures.count ∙ ap (λ (s : Stable). s.schema.key_cols) c.self.view_is in
    let present : c.args.sid < inside.count =
    omega
    (arith, c.requires, ap (λ (s : Stable). length s.rows) c.self.view_is, length_rows inside.count inside.columns.items) in
    let wide =
    ap (λ (s : Stable). length (get_or s.rows c.args.sid [])) (sym c.self.view_is)
    ∙ row_width inside.schema inside.count inside.columns.items c.self.invariant c.args.sid present in
    let whole : c.key_cols-key_cols.result ≡ length (take n row) =
    omega (
      arith,
      counted,
      length-take n row,
      wide,
      c.key_cols-key_cols.ensures.count,
      c.key_cols-key_cols.ensures.lawful.key_within,
    ) in
    c.cmp-2.ensures
    ∙ ap (λ m. nat_cmp m (length c.args.key.now)) whole
    ∙ ended (take n row) c.args.key.now c.loop-col.col
    (omega (arith, whole, c.min-cells.ensures, c.loop-col.auto.col-end, c.loop-col-test.false))
    ∙ sym c.loop-col.invariant.tie
