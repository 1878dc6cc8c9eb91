use Rattle.std.proofs.Common.{◌≡◌, ◌∙◌, List, length, min, take, drop, ap, sym, subst, arith}
use Rattle.values.specs.declared.row.Row.{Row}
use Rattle.model.specs.Table.{rows_of}
use Rattle.model.specs.Merging.{merged_rows}
use Rattle.delta.specs.Tree.{Tree}
use Rattle.stable.specs.Rows.{column_values}
use Rattle.values.specs.Shape.{Columns}
use Rattle.merge.specs.Image.{IsLayer, image_rows}
use Rattle.merge.specs.Packed.{AreNumbersOf, type_at}
use Rattle.txn.specs.Txn.{Transaction, transaction_at, image_of}
use Rattle.txn.specs.Version.{table_version}
use Rattle.txn.proofs.ReadsLemmas.{is_layer, image_rows_is}
use Rattle.txn.proofs.transaction.Txn.fill_numbers.Goals.{After-fill_numbers}
use Rattle.txn.proofs.transaction.Txn.fill_numbers.Goals as goal
use Rattle.std.proofs.lemmas.Grind.{common_steps}

pub layers-layers-requires : goal.layers-layers-requires
layers-layers-requires c =
    let inside = c.self.inside in
    let txn : Transaction = transaction_at (table_version inside.version) inside.row_limit inside.client inside.writes.items in
    subst (λ (tree : Tree). IsLayer txn.schema txn.table tree) (sym c.self.invariant.1) (is_layer txn c.self.invariant.0)

-- the rows of the layers
shown : (c : After-fill_numbers) → image_rows c.layers-layers.result ≡ rows_of (image_of c.args.self.now)
shown c =
    let inside = c.self.inside in
    let txn : Transaction = transaction_at (table_version inside.version) inside.row_limit inside.client inside.writes.items in
    c.layers-layers.ensures.rows
    ∙ ap (λ (tree : Tree). merged_rows (rows_of txn.table) tree.entries) c.self.invariant.1
    ∙ image_rows_is txn c.self.invariant.0
    ∙ ap (λ (t : Transaction). rows_of (image_of t)) c.self.view_is

pub returns-clause-count : goal.returns-clause-count
returns-clause-count c = grind (arith, common_steps, c.fill_numbers.ensures.count, shown)

pub returns-clause-values : goal.returns-clause-values
returns-clause-values c = grind (arith, common_steps, c.layers-layers.ensures.schema, c.fill_numbers.ensures.values, shown)
