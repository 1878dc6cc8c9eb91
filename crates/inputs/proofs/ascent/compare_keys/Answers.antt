use Rattle.std.proofs.Common.{◌+◌, Equal, List, take, drop, map, sym, ap, ◌∙◌}
use Rattle.std.proofs.lemmas.List.{drop_all}
use Rattle.values.specs.Lent.{value_of}
use Rattle.values.specs.Orders.{key_cmp}
use Rattle.blocks.specs.Column.{Column}
use Rattle.stable.specs.Rows.{cell_at}
use Rattle.stable.proofs.CallerLemmas.{decided, keys_of}
use Rattle.inputs.proofs.AscentLemmas.{keys_at}
use Rattle.inputs.proofs.ascent.compare_keys.Goals as goal

pub returns-in_default : goal.returns-in_default
returns-in_default c =
    let i = c.args.i in
    let j = c.args.j in
    let columns : List Column = take c.args.key_cols c.args.columns.now in
    let n = c.loop-column.column-index in
    let here =
    keys_at i j columns n c.column-item.result (value_of c.cell_at.result) (value_of c.cell_at-in-loop-column.result)
    c.cmp.result c.loop-column-test.true c.column-item.is c.cell_at.ensures c.cell_at-in-loop-column.ensures
    (sym c.cmp.ensures) in
    sym
    (keys_of c.args.key_cols i j c.args.columns.now
    ∙ c.loop-column.invariant
    ∙ here
    ∙ decided c.cmp.result (key_cmp (map (cell_at i) (drop (n + 1) columns)) (map (cell_at j) (drop (n + 1) columns)))
    c.in_default.not-Equal)

pub loop-column-preserved : goal.loop-column-preserved
loop-column-preserved c =
    let i = c.args.i in
    let j = c.args.j in
    let columns : List Column = take c.args.key_cols c.args.columns.now in
    let n = c.loop-column.column-index in
    c.loop-column.invariant
    ∙ keys_at i j columns n c.column-item.result (value_of c.cell_at.result) (value_of c.cell_at-in-loop-column.result) Equal
    c.loop-column-test.true c.column-item.is c.cell_at.ensures c.cell_at-in-loop-column.ensures
    (sym c.cmp.ensures ∙ c.in-Equal.is)

pub returns : goal.returns
returns c =
    let i = c.args.i in
    let j = c.args.j in
    let columns : List Column = take c.args.key_cols c.args.columns.now in
    let none = drop_all c.loop-column.column-index columns c.loop-column-test.false in
    sym (keys_of c.args.key_cols i j c.args.columns.now
    ∙ c.loop-column.invariant
    ∙ ap (λ (cs : List Column). key_cmp (map (cell_at i) cs) (map (cell_at j) cs)) none)
