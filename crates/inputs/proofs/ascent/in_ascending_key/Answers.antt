use Rattle.std.proofs.lemmas.List.Sorted.{IsPermutation-refl}
use Rattle.stable.specs.Rows.{rows_of}
use Rattle.inputs.specs.Filling.{rows_in}
use Rattle.inputs.proofs.AscentLemmas.{ascent-IsAscending, ascent-IsInOrder, ascent-none, rows_numbered}
use Rattle.inputs.proofs.OrderLemmas.{repeats-none}
use Rattle.inputs.proofs.ascent.in_ascending_key.Goals as goal

pub returns-then-is_ascending-clause-distinct : goal.returns-then-is_ascending-clause-distinct
returns-then-is_ascending-clause-distinct c =
    let k = c.args.key_cols in
    let count = c.args.count in
    let columns = c.args.columns.items in
    let up = rw c.as_slice.ensures.value at (c.is_ascending.ensures c.if-is_ascending.true) in
    let rows = rows_in count columns in
    repeats-none k rows rows (IsPermutation-refl rows) (rows_numbered count columns) (ascent-IsInOrder k count columns up)
    (ascent-none k count columns up)

pub returns-then-is_ascending-clause-each_once : goal.returns-then-is_ascending-clause-each_once
returns-then-is_ascending-clause-each_once c = IsPermutation-refl (rows_of c.args.count c.args.columns.items)

pub returns-then-is_ascending-clause-ascending : goal.returns-then-is_ascending-clause-ascending
returns-then-is_ascending-clause-ascending c =
    let up = rw c.as_slice.ensures.value at (c.is_ascending.ensures c.if-is_ascending.true) in
    ascent-IsAscending c.args.key_cols c.args.count c.args.columns.items up
