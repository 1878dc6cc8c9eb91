use Rattle.std.proofs.Common.{◌≡◌, ap, ◌∙◌, sym, subst}
use Rattle.values.specs.Shape.{Columns}
use Rattle.delta.specs.Tree.{Tree}
use Rattle.stable.specs.Stable.{Stable, table_in}
use Rattle.merge.specs.Image.{IsLayer}
use Rattle.txn.specs.Version.{Lower, numbered, empty_tree}
use Rattle.test_snapshots.proofs.VersionLemmas.{one_layer}
use Rattle.test_snapshots.proofs.pairs.image_of.Goals as goal

pub stacked-requires : goal.stacked-requires
stacked-requires c =
    let s = c.args.stable.now.value in
    let l : Lower = record { stable = c.in_ok-clone.field-0.value; read = c.in_ok-read.read.value; write = c.in_ok-none.none.value } in
    let count =
    c.key_cols.ensures.count
    ∙ ap (λ (t : Columns). t.key_cols) c.schema.ensures.columns
    ∙ ap (λ (t : Stable). t.schema.key_cols) c.deref.ensures in
    let none : l.write ≡ empty_tree s.schema.key_cols = c.in_ok-none.ensures.ok ∙ c.new-3.ensures ∙ ap empty_tree count in
    let read : l.read ≡ c.args.tree.now = c.in_ok-read.ensures.ok ∙ c.new.ensures ∙ c.in_ok-copy.ensures in
    one_layer s l c.in_ok-clone.ensures.cases none (subst (IsLayer s.schema (table_in s)) (sym read) c.requires)

pub returns : goal.returns
returns c =
    let s = c.args.stable.now.value in
    let count =
    c.key_cols.ensures.count
    ∙ ap (λ (t : Columns). t.key_cols) c.schema.ensures.columns
    ∙ ap (λ (t : Stable). t.schema.key_cols) c.deref.ensures in
    let none : c.in_ok-none.none.value ≡ empty_tree s.schema.key_cols = c.in_ok-none.ensures.ok ∙ c.new-3.ensures ∙ ap empty_tree count in
    let read : c.in_ok-read.read.value ≡ c.args.tree.now = c.in_ok-read.ensures.ok ∙ c.new.ensures ∙ c.in_ok-copy.ensures in
    c.in_ok-stacked.ensures ∙ (λ i. numbered (record { stable = c.in_ok-clone.ensures.cases i; read = read i; write = none i }) 1)
