use Rattle.std.proofs.Common.{◌≡◌, List, ap, ◌∙◌, length, arith}
use Rattle.std.proofs.lemmas.List.{length-map}
use Rattle.values.specs.declared.row.Row.{Row}
use Rattle.model.specs.Table.{rows_of, table_of}
use Rattle.merge.specs.Image.{image_rows, image_table, stack_below}
use Rattle.merge.proofs.CallerLemmas.{merged_rows-nothing}
use Rattle.txn.specs.Version.{LayeredVersion, TableVersion, lower_rows}
use Rattle.manager.specs.Managed.{Managed, managed_of, newest_table, newest_version}
use Rattle.manager.proofs.GrantLemmas.{limited}
use Rattle.manager.proofs.HistoryLemmas.{newest_within}
use Rattle.manager.proofs.manager.Manager.newest.Goals as goal

pub returns-clause-schema : goal.returns-clause-schema
returns-clause-schema c =
    c.image.ensures.schema
    ∙ ap (λ (v : TableVersion). v.schema) c.self.invariant.0.newest_is
    ∙ ap (λ (m : Managed). m.schema) c.self.view_is

pub returns-clause-rows : goal.returns-clause-rows
returns-clause-rows c =
    c.image.ensures.rows ∙ ap (λ (v : TableVersion). rows_of v.table) (c.self.invariant.0.newest_is ∙ ap newest_version c.self.view_is)

pub returns-clause-table : goal.returns-clause-table
returns-clause-table c =
    let l = c.self.inside.newest.layers in
    ap image_table c.image.ensures.layers
    ∙ ap (table_of l.stable.schema.key_cols) (merged_rows-nothing (lower_rows l))
    ∙ ap (λ (v : TableVersion). v.table) (c.self.invariant.0.newest_is ∙ ap newest_version c.self.view_is)

pub returns-clause-few : goal.returns-clause-few
returns-clause-few c =
    let i = c.self.inside in
    let h = c.self.invariant.0 in
    let m = managed_of i.history i.made i.newest.layers in
    let rows : length (image_rows c.image.result) ≡ length (rows_of (newest_table m)) =
    ap (λ (rs : List Row). length rs) (c.image.ensures.rows ∙ ap (λ (v : TableVersion). rows_of v.table) h.newest_is) in
    let count : length (rows_of (newest_table m)) ≡ length (newest_table m) = length-map _ _ in
    let most = limited m (length (newest_table m)) h.lawful (newest_within m h.lawful) in
    omega (arith, rows, count, most)

pub returns-clause-layers : goal.returns-clause-layers
returns-clause-layers c =
    c.image.ensures.layers
    ∙ ap (λ (v : LayeredVersion). stack_below v.layers.stable v.layers.read v.layers.write) c.self.invariant.0.layers_are
    ∙ ap (λ (m : Managed). stack_below m.layers.stable m.layers.read m.layers.write) c.self.view_is
