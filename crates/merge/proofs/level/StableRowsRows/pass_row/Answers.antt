use Rattle.std.proofs.Common.{◌<◌, length, get_or, [], arith, length-drop}
use Rattle.std.proofs.lemmas.Option.{slice_get-get_or}
use Rattle.merge.proofs.CursorLemmas.{drop-at}
use Rattle.merge.proofs.level.StableRowsRows.pass_row.Goals as goal

pub returns-clause-rows : goal.returns-clause-rows
returns-clause-rows c =
    let rows = c.args.self.now.table.now.rows in
    let sid = c.args.self.now.sid in
    let there : sid < length rows = omega (arith, c.requires.some, length-drop sid rows) in
    record { row = get_or rows sid []; rows = drop-at rows sid (get_or rows sid []) (slice_get-get_or rows sid [] there) }

pub returns-clause-over : goal.returns-clause-over
returns-clause-over c = λ base same.
    let sid = c.args.self.now.sid in
    let there : sid < length base = omega (arith, same, c.requires.some, length-drop sid c.args.self.now.table.now.rows) in
    record { row = get_or base sid []; rows = drop-at base sid (get_or base sid []) (slice_get-get_or base sid [] there) }
