use Rattle.std.proofs.Common.{◌≡◌, ◌∙◌, List, take, drop, ap, sym, subst, arith}
use Rattle.values.specs.declared.row.Row.{Row}
use Rattle.model.specs.Table.{rows_of}
use Rattle.model.specs.Merging.{merged_rows}
use Rattle.delta.specs.Tree.{Tree}
use Rattle.stable.specs.Rows.{column_values}
use Rattle.merge.specs.Image.{IsLayer, image_rows}
use Rattle.txn.specs.Txn.{Transaction, transaction_at, image_of}
use Rattle.txn.specs.Version.{table_version}
use Rattle.txn.proofs.ReadsLemmas.{is_layer, image_rows_is}
use Rattle.txn.proofs.transaction.Txn.number_runs.Goals.{After-number_runs}
use Rattle.txn.proofs.transaction.Txn.number_runs.Goals as goal
use Rattle.std.proofs.lemmas.Grind.{common_steps}

pub layers-image-requires : goal.layers-image-requires
layers-image-requires c =
    let inside = c.self.inside in
    let txn : Transaction = transaction_at (table_version inside.version) inside.row_limit inside.client inside.writes.items in
    subst (λ (tree : Tree). IsLayer txn.schema txn.table tree) (sym c.self.invariant.1) (is_layer txn c.self.invariant.0)

-- the rows of the layers
shown : (c : After-number_runs) → image_rows c.layers-image.result ≡ rows_of (image_of c.args.self.now)
shown c =
    let inside = c.self.inside in
    let txn : Transaction = transaction_at (table_version inside.version) inside.row_limit inside.client inside.writes.items in
    c.layers-image.ensures.rows
    ∙ ap (λ (tree : Tree). merged_rows (rows_of txn.table) tree.entries) c.self.invariant.1
    ∙ image_rows_is txn c.self.invariant.0
    ∙ ap (λ (t : Transaction). rows_of (image_of t)) c.self.view_is

pub returns : goal.returns
returns c = grind (arith, common_steps, c.number_runs.ensures, shown)
