use Rattle.std.proofs.Common.{◌∙◌, sym, ap}
use Rattle.stable.specs.Stable.{Stable}
use Rattle.values.specs.Shape.{Columns}
use Rattle.test_snapshots.proofs.LayerLemmas.{are_stacked, same_table}
use Rattle.test_snapshots.proofs.images.stacked_with.Goals as goal

pub returns : goal.returns
returns c =
    let s = c.in_ok-stable.stable in
    let keys = c.key_cols.ensures.count ∙ ap (λ (columns : Columns). columns.key_cols) c.schema-schema.ensures.columns in
    let same = c.in_ok-copy_rows-2.ensures ∙ sym c.in_ok-copy_rows.ensures ∙ sym (ap (λ (t : Stable). t.rows) c.in_ok-stable.ensures.ok) in
    let table =
    same_table s c.key_cols.result c.in_ok-copy_rows-2.field-0.items c.in_ok-table.table c.schema-schema.ensures.lawful keys
    same c.in_ok-table.ensures.ascending in
    let made = c.in_ok-read.ensures in
    are_stacked s c.schema-schema.result.now _ _ _ c.in_ok-table.table _ _ c.schema-schema.ensures.columns table made.0 made.1
    made.2 made.3 made.4
