use Rattle.std.proofs.Common.{◌≡◌, ap, sym, ◌∙◌, subst}
use Rattle.values.specs.Shape.{Columns}
use Rattle.model.specs.Table.{rows_of, table_of}
use Rattle.model.specs.Merging.{merged_rows}
use Rattle.delta.specs.Tree.{Tree}
use Rattle.merge.specs.Image.{IsLayer, image_rows}
use Rattle.txn.specs.Txn.{Transaction, transaction_at, image_of}
use Rattle.txn.proofs.ReadsLemmas.{is_layer, image_rows_is, image_table_is}
use Rattle.txn.specs.Version.{table_version}
use Rattle.txn.proofs.transaction.Txn.layers.Goals as goal

pub layers-requires : goal.layers-requires
layers-requires c =
    let inside = c.self.inside in
    let txn : Transaction = transaction_at (table_version inside.version) inside.row_limit inside.client inside.writes.items in
    subst (λ (tree : Tree). IsLayer txn.schema txn.table tree) (sym c.self.invariant.1) (is_layer txn c.self.invariant.0)

-- the rows of the layers
abbrev shown : (c : goal.After-layers) → image_rows c.layers.result ≡ rows_of (image_of c.args.self.now)
shown c =
    let inside = c.self.inside in
    let txn : Transaction = transaction_at (table_version inside.version) inside.row_limit inside.client inside.writes.items in
    c.layers.ensures.rows
    ∙ ap (λ (tree : Tree). merged_rows (rows_of txn.table) tree.entries) c.self.invariant.1
    ∙ image_rows_is txn c.self.invariant.0
    ∙ ap (λ (t : Transaction). rows_of (image_of t)) c.self.view_is

pub returns-clause-rows : goal.returns-clause-rows
returns-clause-rows c = shown c

pub returns-clause-table : goal.returns-clause-table
returns-clause-table c =
    let inside = c.self.inside in
    let txn : Transaction = transaction_at (table_version inside.version) inside.row_limit inside.client inside.writes.items in
    let columns : c.layers.result.schema ≡ txn.schema = c.layers.ensures.schema in
    let back : rows_of (image_of c.args.self.now) ≡ rows_of (image_of txn) =
    sym (ap (λ (t : Transaction). rows_of (image_of t)) c.self.view_is) in
    ap (table_of c.layers.result.schema.key_cols) (shown c ∙ back)
    ∙ ap (λ (s : Columns). table_of s.key_cols (rows_of (image_of txn))) columns
    ∙ image_table_is txn c.self.invariant.0
    ∙ ap (λ (t : Transaction). image_of t) c.self.view_is
