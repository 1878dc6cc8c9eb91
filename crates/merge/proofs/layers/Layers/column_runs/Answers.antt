use Rattle.std.proofs.Common.{◌≡◌, List, take, drop, get_or, sym, ap, subst, ◌∙◌}
use Rattle.std.specs.List.{All}
use Rattle.std.specs.Option.{option_copied}
use Rattle.std.proofs.lemmas.List.Elements.{All-drop, All-take}
use Rattle.values.specs.declared.row.Row.{Row}
use Rattle.values.specs.declared.value.ColumnType.{ColumnType}
use Rattle.values.specs.declared.value.ColumnType.TheVariants as column
use Rattle.model.specs.Table.{IsTable}
use Rattle.blocks.specs.Column.{Column}
use Rattle.merge.specs.Fitting.{StandsAt}
use Rattle.merge.specs.Image.{Stack, image_rows, image_table, tree_over}
use Rattle.merge.proofs.RunLemmas.{table_stands}
use Rattle.merge.proofs.StackLemmas.{image_is_table}
use Rattle.merge.proofs.layers.Layers.column_runs.Goals as goal

pub new-requires : goal.new-requires
new-requires c =
    let l = c.self.inside in
    let s = c.args.self.now in
    let col = c.args.col in
    let rows = image_rows s in
    let table = subst (λ (s : Stack). IsTable s.schema (image_table s)) c.self.view_is
    (image_is_table l.stable.now l.read.now l.write.now (tree_over l.stable.now.schema.key_cols (option_copied l.trans))
    c.self.invariant.stacked)
    in
    let ty = get_or s.schema.types col column.Int in
    let same : c.column.result.now.ty ≡ ty =
    ap (λ (x : Column). x.ty) c.column.ensures ∙ ap (λ (s : Stack). get_or s.schema.types col column.Int) c.self.view_is in
    let Here : Row → Type 0 = StandsAt ty col in
    let stand : All Here (drop c.args.from (take c.args.to rows)) =
    All-drop Here c.args.from (take c.args.to rows) (All-take Here c.args.to rows (table_stands s.schema rows col table c.requires)) in
    subst (λ (t : ColumnType). All (StandsAt t col) c.stretches.result) (sym same)
    (subst (λ (rs : List Row). All Here rs) (sym c.stretches.ensures) stand)
