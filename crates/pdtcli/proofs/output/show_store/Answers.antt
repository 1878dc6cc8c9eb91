use Rattle.std.proofs.Common.{◌≡◌, ◌∙◌, List, OnOk, ap, sym, subst}
use Rattle.std.specs.Io.KnownBytes.{Appends}
use Rattle.values.specs.declared.row.Row.{Row}
use Rattle.delta.specs.Tree.{Tree}
use Rattle.merge.specs.Image.{AreStacked, image_rows, stack_of}
use Rattle.txn.specs.Version.{empty_tree}
use Rattle.pdtcli.specs.Output.{image_text}
use Rattle.pdtcli.proofs.OutputLemmas.{are_stacked_alone, image_rows-alone}
use Rattle.pdtcli.proofs.output.show_store.Goals as goal

pub new-layers-requires : goal.new-layers-requires
new-layers-requires g c =
    let s = c.args.image.now.table in
    let none : c.new-none.result ≡ empty_tree s.schema.key_cols =
    c.new-none.ensures ∙ ap empty_tree (c.key_cols.ensures.count ∙ ap (λ z. z.key_cols) c.schema.ensures.columns) in
    subst (λ (t : Tree). AreStacked s t t t) (sym none) (are_stacked_alone s c.schema.ensures.lawful)

pub returns : goal.returns
returns g c =
    let s = c.args.image.now.table in
    let none : c.new-none.result ≡ empty_tree s.schema.key_cols =
    c.new-none.ensures ∙ ap empty_tree (c.key_cols.ensures.count ∙ ap (λ z. z.key_cols) c.schema.ensures.columns) in
    let rows = ap image_rows c.new-layers.ensures ∙ ap (λ (t : Tree). image_rows (stack_of s t t t)) none ∙ image_rows-alone s in
    subst
    (λ (rs : List Row). OnOk c.show_image.result (Appends (g.W.Write.contents c.args.out.now) (g.W.Write.contents c.show_image.new.out)
    (image_text c.args.schema.now rs)))
    rows c.show_image.ensures
