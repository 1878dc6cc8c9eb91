use Rattle.std.proofs.Common.{◌∙◌, List, Some, drop, get_or, sym, ap, subst, arith}
use Rattle.std.specs.Prelude.{false}
use Rattle.std.proofs.lemmas.List.{length-map, take-map}
use Rattle.values.specs.declared.row.Row.{Row}
use Rattle.values.specs.declared.value.Value.TheVariants.{Bool as Truth}
use Rattle.model.specs.Table.{rows_of}
use Rattle.blocks.specs.Column.{Column}
use Rattle.stable.specs.Rows.{column_values}
use Rattle.merge.specs.Runs.{YieldsRun}
use Rattle.merge.specs.declared.run.Run.{Run}
use Rattle.txn.specs.Txn.{image_of}
use Rattle.pdt_c.specs.Reads.{column_from}
use Rattle.pdt_c.proofs.NumberLemmas.{range_cut}
use Rattle.pdt_c.proofs.TruthLemmas.{lie_together, truths_there}
use Rattle.pdt_c.proofs.calls.bools.together_at.Goals as goal

pub column_runs-requires : goal.column_runs-requires
column_runs-requires c = (truths_there c.args.txn.now.schema.types c.args.col c.requires.column).0

pub returns-in-Some-Truths : goal.returns-in-Some-Truths
returns-in-Some-Truths c =
    let txn = c.args.txn.now in
    let col = c.args.col in
    let from = c.args.from in
    let most = c.args.most in
    let rows : List Row = rows_of (image_of txn) in
    let to = c.min-to.result in
    let many = length-map (image_of txn) (λ e. e.1) in
    let steps =
    subst (λ (run : Run). YieldsRun c.column_runs.result (Some run) c.next.new.self) c.in-Some-Truths.field-0-is
    c.in-Some-Truths.ensures.steps in
    let cut = range_cut from most to rows
    (λ le. omega (arith, le, many, c.len.ensures, c.len.type_inv, c.saturating_add.ensures, c.min-to.ensures))
    (λ le. omega (arith, le, many, c.len.ensures, c.len.type_inv, c.saturating_add.ensures, c.min-to.ensures)) in
    lie_together c.in-Some-Truths.run' most (column_from txn col from) c.next.new.self.values
    (take-map (λ (row : Row). get_or row col (Truth false)) most (drop from rows)
    ∙ ap (column_values col) (sym cut)
    ∙ ap (λ (column : Column). column.values) (sym c.column_runs.ensures ∙ steps.0)) steps.1 steps.2.1
