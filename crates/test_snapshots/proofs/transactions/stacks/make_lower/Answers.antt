use Rattle.std.proofs.Common.{◌≡◌, ap, ◌∙◌, subst}
use Rattle.values.specs.Shape.{Columns}
use Rattle.delta.specs.Tree.{Tree}
use Rattle.stable.specs.Stable.{Stable}
use Rattle.merge.specs.Image.{IsLayer}
use Rattle.txn.specs.Version.{Lower, AreLower, version_at, version_of, lower_table, table_version, empty_tree}
use Rattle.txn.proofs.CallerLemmas.{version_of-alone}
use Rattle.test_snapshots.proofs.VersionLemmas.{one_layer, two_layers, layer_of_version}
use Rattle.test_snapshots.proofs.transactions.stacks.make_lower.Goals as goal

pub stacked-requires : goal.stacked-requires
stacked-requires c =
    let s = c.in_ok-stable.stable.value in
    let l : Lower =
    record { stable = c.in_ok-clone-2.field-0.value; read = c.in_ok-clone-3.field-0.value; write = c.in_ok-none.none.value }
    in
    let count =
    c.key_cols.ensures.count
    ∙ ap (λ (t : Columns). t.key_cols) c.schema.ensures.columns
    ∙ ap (λ (t : Stable). t.schema.key_cols) c.deref.ensures in
    let none : l.write ≡ empty_tree s.schema.key_cols = c.in_ok-none.ensures.ok ∙ c.new-2.ensures ∙ ap empty_tree count in
    let opened =
    ap table_version c.in_ok-opening.ensures.version
    ∙ version_of-alone c.in_ok-clone.field-0.value 0
    ∙ ap (λ (t : Stable). version_at t 0) c.in_ok-clone.ensures.cases in
    let read =
    layer_of_version (table_version c.in_ok-opening.opening) (version_at s 0) c.in_ok-tree.tree l.read opened
    (c.in_ok-clone-3.ensures.cases ∙ c.in_ok-read.ensures.ok ∙ c.new-5.ensures) c.in_ok-tree.ensures in
    one_layer s l c.in_ok-clone-2.ensures.cases none read

pub returns : goal.returns
returns c =
    let s = c.in_ok-stable.stable.value in
    let l : Lower =
    record { stable = c.in_ok-clone-2.field-0.value; read = c.in_ok-clone-3.field-0.value; write = c.in_ok-none.none.value }
    in
    let count =
    c.key_cols.ensures.count
    ∙ ap (λ (t : Columns). t.key_cols) c.schema.ensures.columns
    ∙ ap (λ (t : Stable). t.schema.key_cols) c.deref.ensures in
    let none : l.write ≡ empty_tree s.schema.key_cols = c.in_ok-none.ensures.ok ∙ c.new-2.ensures ∙ ap empty_tree count in
    let opened =
    ap table_version c.in_ok-opening.ensures.version
    ∙ version_of-alone c.in_ok-clone.field-0.value 0
    ∙ ap (λ (t : Stable). version_at t 0) c.in_ok-clone.ensures.cases in
    let read =
    layer_of_version (table_version c.in_ok-opening.opening) (version_at s 0) c.in_ok-tree.tree l.read opened
    (c.in_ok-clone-3.ensures.cases ∙ c.in_ok-read.ensures.ok ∙ c.new-5.ensures) c.in_ok-tree.ensures in
    let write = c.in_ok-write.write.value in
    let over : IsLayer l.stable.schema (lower_table l) write =
    layer_of_version (table_version c.in_ok-middle.middle) (version_of l 1) c.in_ok-tree_over.field-0 write
    (ap table_version c.in_ok-middle.ensures) c.in_ok-write.ensures.ok c.in_ok-tree_over.ensures in
    let over_stable = subst (λ (t : Stable). IsLayer t.schema (lower_table l) write) c.in_ok-clone-2.ensures.cases over in
    subst (λ (tree : Tree). AreLower (record { stable = s; read = tree; write = write })) c.in_ok-clone-3.ensures.cases
    (two_layers s l write c.in_ok-clone-2.ensures.cases none read over_stable)
