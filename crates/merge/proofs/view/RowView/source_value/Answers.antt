use Rattle.std.proofs.Common.{◌≡◌, ◌<◌, length, get_or, [], ap, arith}
use Rattle.std.proofs.lemmas.Option.{slice_get-get_or}
use Rattle.merge.specs.View.{source_row}
use Rattle.merge.specs.declared.view.Source.{Source}
use Rattle.merge.proofs.ViewLemmas.{inside, stable_width}
use Rattle.merge.proofs.view.RowView.source_value.Goals as goal
use Rattle.std.proofs.lemmas.Grind.{common_steps}

pub prove-unreachable-requires : goal.prove-unreachable-requires
prove-unreachable-requires c =
    let s = c.in-Stable.table.now in
    let sid = c.in-Stable.sid in
    let source : length (source_row c.args.self.now.source) ≡ length (get_or s.rows sid []) = ap
    (λ (x : Source). length (source_row x)) c.in-Stable.is in
    let some : 0 < length (get_or s.rows sid []) = omega (arith, source, c.requires) in
    let wide = stable_width s sid c.schema.ensures.lawful (inside s.rows sid some) in
    omega (
      arith,
      source,
      wide,
      c.requires,
      c.if-prove.true,
      c.width-width.ensures.columns,
      ap
          (λ columns. length columns.types) c.schema.ensures.columns,
    )

pub returns-in-Inserted : goal.returns-in-Inserted
returns-in-Inserted c =
    grind (arith, common_steps, c.in-Inserted.is, c.requires, c.cells.ensures, c.index-cells-col.is, c.as_ref.ensures, slice_get-get_or)
