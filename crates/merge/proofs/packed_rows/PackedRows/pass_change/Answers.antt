use Rattle.std.proofs.Common.{get_or, arith, length-drop}
use Rattle.std.proofs.lemmas.Option.{slice_get-get_or, slice_get_within}
use Rattle.merge.specs.Cursor.{entries_left}
use Rattle.merge.specs.PackedLeft.{cursor_of}
use Rattle.merge.specs.declared.packed.RowChange.TheVariants.{Insert}
use Rattle.merge.proofs.PackedStepLemmas.{change_next}
use Rattle.merge.proofs.packed_rows.PackedRows.pass_change.Goals as goal

pub overflow_add-self : goal.overflow_add-self
overflow_add-self c =
    let p = c.args.self.now in
    let lawful = c.requires.lawful in
    let change = get_or p.changes.now 0 (Insert 0 0 0) in
    let first = slice_get-get_or p.changes.now 0 (Insert 0 0 0) c.requires.some in
    let next = change_next (cursor_of p) p.changes.now change lawful.changes_are first in
    omega (
      arith,
      c.place.ensures,
      next.is.place_is,
      slice_get_within (entries_left (cursor_of p)) next.at next.entry next.there,
      length-drop (cursor_of p).index p.tree.now.entries,
      lawful.cursor.lawful.counted,
    )
