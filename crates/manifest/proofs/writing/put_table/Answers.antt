use Rattle.std.proofs.Common.{◌≡◌, length, rules}
use Rattle.manifest.specs.Manifest.{IsName}
use Rattle.manifest.proofs.writing.put_table.Goals as goal

pub returns-clause-lawful : goal.returns-clause-lawful
returns-clause-lawful c =
    let table = c.args.table.now in
    let name : IsName table.line.name.now = search rules in
    let width : length table.columns.items ≡ table.line.width = search rules in
    record {
      line = c.put_line.ensures.lawful name c.if-line-gt-MAX_WIDTH.false;
      header = c.put_mark.ensures.lawful;
      width = width;
      columns = rw (← c.as_slice.ensures.value) c.in_ok-put_marks.ensures.lawful;
    }
