use Rattle.std.proofs.Common.{◌∙◌, ◌-◌, List, length, map, take, drop, ap, subst}
use Rattle.std.specs.Prelude.{min}
use Rattle.std.specs.Option.{option_copied}
use Rattle.std.proofs.lemmas.List.{take-map}
use Rattle.values.specs.declared.row.Row.{Row}
use Rattle.values.specs.declared.value.ColumnType.{ColumnType}
use Rattle.values.specs.declared.value.Value.TheVariants.{Int}
use Rattle.stable.specs.Rows.{column_values}
use Rattle.merge.specs.Filling.{HaveValues}
use Rattle.merge.specs.Image.{Stack, image_rows}
use Rattle.merge.specs.NumberRows.{HasNumberColumn}
use Rattle.merge.specs.Packed.{number_at}
use Rattle.merge.proofs.FillingLemmas.{values_are}
use Rattle.merge.proofs.PackedPlaceLemmas.{image_values}
use Rattle.merge.proofs.RangeLemmas.{cut_range}
use Rattle.merge.proofs.layers.Layers.number_runs.Goals as goal

pub new-requires-clause-column : goal.new-requires-clause-column
new-requires-clause-column c =
    subst (λ (ty : ColumnType). HasNumberColumn ty c.args.col c.number_rows_from.result) c.requires.column.ints c.number_rows_from.ensures.column

pub returns : goal.returns
returns c =
    let l = c.self.inside in
    let col = c.args.col in
    let rows = image_rows c.args.self.now in
    let count = c.self.invariant.counted ∙ ap (λ (s : Stack). length (image_rows s)) c.self.view_is in
    let start = c.min-start.ensures ∙ ap (min c.args.from) count in
    let end = c.min-stop.ensures ∙ ap (min c.args.to) count in
    let many = c.saturating_sub-left.ensures ∙ (λ i. end i - start i) in
    let left = c.saturating_sub-left.result in
    let part = take left (drop c.min-start.result rows) in
    let have = image_values l.stable.now l.read.now l.write.now (option_copied l.trans) l.len c.args.self.now c.self.view_is
    c.self.invariant col c.requires.column.there c.min-start.result left in
    let ints = subst (λ (ty : ColumnType). HaveValues ty col part) c.requires.column.ints have in
    ap (map Int)
    (c.new.ensures
    ∙ ap (λ (rs : List Row). take left (map (number_at col) rs)) c.number_rows_from.ensures.rows
    ∙ take-map (number_at col) left (drop c.min-start.result rows))
    ∙ values_are col part ints
    ∙ ap (column_values col) ((λ i. take (many i) (drop (start i) rows)) ∙ cut_range c.args.from c.args.to rows)
