use Rattle.std.proofs.Common.{◌<◌, List, length, drop, get_or, [], sym, arith, length-drop}
use Rattle.std.proofs.lemmas.List.{drop-drop}
use Rattle.std.proofs.lemmas.List.Elements.{All-drop, All-same}
use Rattle.std.proofs.lemmas.Option.{slice_get-get_or}
use Rattle.values.specs.declared.row.Row.{Row as Cells}
use Rattle.merge.specs.Fitting.{StandsAt}
use Rattle.merge.proofs.CursorLemmas.{drop-at}
use Rattle.merge.proofs.numbers.StableRowsNumbers.skip_row.Goals as goal

pub returns-clause-column : goal.returns-clause-column
returns-clause-column c = λ ty col h.
    let rows : List Cells = c.args.self.now.table.now.rows in
    All-same (StandsAt ty col) _ _ (sym (drop-drop 1 c.args.self.now.sid rows))
    (All-drop (StandsAt ty col) 1 (drop c.args.self.now.sid rows) h)

pub returns-clause-row : goal.returns-clause-row
returns-clause-row c =
    let rows = c.args.self.now.table.now.rows in
    let sid = c.args.self.now.sid in
    let there : sid < length rows = omega (arith, c.requires.some, length-drop sid rows) in
    record { row = get_or rows sid []; rows = drop-at rows sid (get_or rows sid []) (slice_get-get_or rows sid [] there) }
