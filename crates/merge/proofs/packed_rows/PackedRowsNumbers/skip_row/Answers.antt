use Rattle.std.proofs.Common.{◌∙◌, List, ◌∷◌, length, drop, sym, ap, subst}
use Rattle.values.specs.declared.row.Row.{Row as Cells}
use Rattle.merge.specs.Cursor.{TreeCursor, IsCursor, entries_left, rows_left}
use Rattle.merge.specs.Packed.{patches_in}
use Rattle.merge.specs.PackedLeft.{base_left, changes_left, count_passed, cursor_of}
use Rattle.merge.proofs.PackedStepLemmas.{keeps_one, modifies_past, skips_modified}
use Rattle.merge.proofs.PackedWalkLemmas.{cursor_kept, none_is, patches_kept}
use Rattle.merge.proofs.packed_rows.PackedRowsNumbers.skip_row.Goals as goal

pub returns-in-Some-clause-column : goal.returns-in-Some-clause-column
returns-in-Some-clause-column c = λ ty col h. c.pass_inserted.ensures.column ty col (c.pass_deleted.ensures.column ty col h)

pub returns-in-Some-clause-row : goal.returns-in-Some-clause-row
returns-in-Some-clause-row c =
    let next = c.in-Some.ensures in
    record {
      row = next.inserted;
      rows = sym c.pass_deleted.ensures.rows ∙ c.pass_inserted.ensures.rows _ next;
    }

pub returns-clause-lawful : goal.returns-clause-lawful
returns-clause-lawful c =
    let p = c.pass_deleted.new.self in
    let lawful = c.pass_deleted.ensures.lawful in
    let n = count_passed 1 (cursor_of p) in
    let kept = keeps_one (cursor_of p) lawful.cursor p.changes.now lawful.changes_are
    (c.pass_deleted.ensures.none, none_is p c.inserted_next.result c.in_default.not-Some c.inserted_next.ensures) in
    let left : List Cells = drop c.skip_row.new.self.sid c.skip_row.new.self.table.now.rows in
    let skipped = skips_modified (cursor_of p) n 1 kept (base_left p) left c.skip_row.ensures.row lawful.cursor in
    let cursor = cursor_kept p 1 lawful in
    record {
      few = c.skip_row.ensures.lawful;
      cursor = subst (λ (x : TreeCursor). IsCursor (length left) x) (sym cursor) skipped.1;
      changes_are = lawful.changes_are ∙ sym (modifies_past (cursor_of p) n 1 kept.modifies) ∙ ap changes_left (sym cursor);
    }

pub returns-clause-column : goal.returns-clause-column
returns-clause-column c = λ ty col h.
    let p = c.pass_deleted.new.self in
    let lawful = c.pass_deleted.ensures.lawful in
    let column = c.pass_deleted.ensures.column ty col h in
    record {
      inserted_are = column.inserted_are;
      patches_are =
          c.past-self.ensures
          ∙ patches_kept p 1 lawful col column.patches_are
          ∙ ap (λ (x : TreeCursor). patches_in col (entries_left x)) (sym (cursor_kept p 1 lawful));
      values = c.skip_row.ensures.column ty col column.values;
    }

pub returns-clause-row : goal.returns-clause-row
returns-clause-row c =
    let p = c.pass_deleted.new.self in
    let lawful = c.pass_deleted.ensures.lawful in
    let n = count_passed 1 (cursor_of p) in
    let kept = keeps_one (cursor_of p) lawful.cursor p.changes.now lawful.changes_are
    (c.pass_deleted.ensures.none, none_is p c.inserted_next.result c.in_default.not-Some c.inserted_next.ensures) in
    let left : List Cells = drop c.skip_row.new.self.sid c.skip_row.new.self.table.now.rows in
    let skipped = skips_modified (cursor_of p) n 1 kept (base_left p) left c.skip_row.ensures.row lawful.cursor in
    record {
      row = skipped.0.row;
      rows =
          sym c.pass_deleted.ensures.rows
          ∙ skipped.0.rows
          ∙ ap (λ (x : TreeCursor). skipped.0.row ∷ rows_left x left) (sym (cursor_kept p 1 lawful));
    }
