use Rattle.std.proofs.Common.{rules, sym}
use Rattle.merge.specs.PackedLeft.{packed_left}
use Rattle.merge.proofs.FillingLemmas.{fills_also, room_one}
use Rattle.merge.proofs.packed_rows.PackedRowsNumbers.fill_next.Goals as goal

pub next_inserted-requires-clause-column : goal.next_inserted-requires-clause-column
next_inserted-requires-clause-column c =
    let ty = c.requires.column.0 in
    (ty, c.args.col, c.pass_deleted.ensures.column ty c.args.col c.requires.column.2)

pub returns-in-Some-clause-column : goal.returns-in-Some-clause-column
returns-in-Some-clause-column c = λ ty column.
    c.next_inserted.ensures.column ty c.args.col (c.pass_deleted.ensures.column ty c.args.col column)

pub returns-in-Some-clause-numbers : goal.returns-in-Some-clause-numbers
returns-in-Some-clause-numbers c =
    let col = c.args.col in
    let filled = c.next_inserted.ensures.number c.requires.column.0 col
    (c.pass_deleted.ensures.column c.requires.column.0 col c.requires.column.2) in
    fills_also col (packed_left c.pass_deleted.new.self) _ (packed_left c.next_inserted.new.self) _ _ c.pass_deleted.ensures.rows
    (sym (room_one c.args.out.now c.next_inserted.result (search rules) c.requires.some)) filled

pub fill_modified-requires-clause-column : goal.fill_modified-requires-clause-column
fill_modified-requires-clause-column c =
    let ty = c.requires.column.0 in
    (ty, c.requires.column.1, c.pass_deleted.ensures.column ty c.args.col c.requires.column.2)

pub returns-clause-column : goal.returns-clause-column
returns-clause-column c = λ ty column. c.fill_modified.ensures.column ty (c.pass_deleted.ensures.column ty c.args.col column)
