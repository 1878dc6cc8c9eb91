use Rattle.std.proofs.Common.{◌≡◌, ◌∙◌, ◌+◌, ◌<◌, true, List, length, map, drop, sym, ap, subst, arith, length-drop}
use Rattle.std.proofs.lemmas.Option.{slice_get_within}
use Rattle.values.specs.declared.row.Row.{Row as Cells}
use Rattle.merge.specs.Cursor.{IsCursor, entries_left, rows_left, starts_with_delete}
use Rattle.merge.specs.Filling.{HaveValues}
use Rattle.merge.specs.Packed.{number_at, rows_in}
use Rattle.merge.specs.PackedLeft.{IsPackedRows, base_left, cursor_of}
use Rattle.merge.specs.ColumnStretches.{PassesRow}
use Rattle.merge.specs.declared.packed.RowChange.{RowChange}
use Rattle.merge.specs.declared.packed_rows.PackedRows.{PackedRows}
use Rattle.merge.proofs.CursorLemmas.{starts-fits}
use Rattle.merge.proofs.PackedStepLemmas.{deleted_next}
use Rattle.merge.proofs.PackedWalkLemmas.{IsChangeHere, change_is_here, changes_past, cursor_lawful, cursor_past, deletes_some, patches_here}
use Rattle.merge.proofs.packed_rows.PackedRows.pass_deleted.Goals as goal

here_at : (p : PackedRows) → IsPackedRows p → starts_with_delete p.sid (entries_left (cursor_of p)) ≡ true
    → IsChangeHere (cursor_of p) p.changes.now
here_at p lawful test =
    change_is_here (cursor_of p) lawful.cursor p.changes.now lawful.changes_are (deletes_some p.sid (entries_left (cursor_of p)) test)

pub pass_change-requires-clause-some : goal.pass_change-requires-clause-some
pass_change-requires-clause-some c =
    let p = c.loop-self.self in
    let here = here_at p c.loop-self.invariant.0 (sym c.deletes_next.ensures ∙ c.loop-self-test.true) in
    slice_get_within p.changes.now 0 here.change here.first

pub skip_row-requires-clause-some : goal.skip_row-requires-clause-some
skip_row-requires-clause-some c =
    let p = c.loop-self.self in
    let lawful = c.loop-self.invariant.0 in
    let next = deleted_next (cursor_of p) lawful.cursor (sym c.deletes_next.ensures ∙ c.loop-self-test.true) in
    let some = next.some (length (base_left p)) lawful.cursor in
    subst (λ (q : PackedRows). 0 < length (base_left q)) (sym c.pass_change.ensures.same) some

pub overflow_add-self : goal.overflow_add-self
overflow_add-self c =
    let p = c.loop-self.self in
    let lawful = c.loop-self.invariant.0.cursor.lawful in
    let fits = starts-fits p.tree.now.key_cols p.sid p.tree.now.entries (cursor_of p).index lawful
    (sym c.deletes_next.ensures ∙ c.loop-self-test.true) in
    omega (arith, fits.0, ap (λ (q : PackedRows). q.sid) c.pass_change.ensures.same)

pub loop-self-smaller : goal.loop-self-smaller
loop-self-smaller c =
    let p = c.loop-self.self in
    let here = here_at p c.loop-self.invariant.0 (sym c.deletes_next.ensures ∙ c.loop-self-test.true) in
    omega (
      arith,
      slice_get_within p.changes.now 0 here.change here.first,
      ap (λ (xs : List RowChange). length xs) c.pass_change.ensures.changes,
      length-drop 1 p.changes.now,
    )

pub loop-self-preserved : goal.loop-self-preserved
loop-self-preserved c =
    let p = c.loop-self.self in
    let q = c.pass_change.new.self in
    let same = c.pass_change.ensures.same in
    let inv = c.loop-self.invariant in
    let lawful = inv.0 in
    let test = sym c.deletes_next.ensures ∙ c.loop-self-test.true in
    let here = here_at p lawful test in
    let next = deleted_next (cursor_of p) lawful.cursor test in
    let left : List Cells = drop c.skip_row.new.self.sid c.skip_row.new.self.table.now.rows in
    let base_is : base_left q ≡ base_left p = ap base_left same in
    let passed : PassesRow (base_left p) left = subst (λ (xs : List Cells). PassesRow xs left) base_is c.skip_row.ensures.row in
    let over = subst (λ (xs : List Cells). IsCursor (length xs) (cursor_of p)) passed.rows lawful.cursor in
    let new : PackedRows = record q { below = c.skip_row.new.self; sid = q.sid + 1 } in
    let tree = ap (λ (x : PackedRows). x.tree.now) same in
    let sid = ap (λ (x : PackedRows). x.sid + 1) same in
    let ahead = next.cursor (length left) over in
    let cursor = cursor_past p new lawful here c.pass_change.ensures.place c.pass_change.ensures.changes
    tree (p.sid + 1) (length left) sid ahead in (
      record {
        few = c.skip_row.ensures.lawful;
        cursor =
            cursor_lawful p new lawful here c.pass_change.ensures.place c.pass_change.ensures.changes
            tree (p.sid + 1) (length left) sid ahead;
        changes_are =
            changes_past p new lawful here c.pass_change.ensures.place c.pass_change.ensures.changes
            tree (p.sid + 1) (length left) sid ahead;
      },
      ap (λ x. rows_left x left) cursor
          ∙ sym (ap (rows_left (cursor_of p)) passed.rows ∙ next.rows passed.row left over)
          ∙ inv.1,
      λ ty col h.
          let old = inv.2 ty col h in
          record {
            inserted_are =
                ap (λ (x : PackedRows). x.inserted.now) same
                ∙ old.inserted_are
                ∙ ap (λ (x : PackedRows). map (number_at col) (rows_in x.tree.now.entries)) (sym same);
            patches_are =
                patches_here p new lawful here c.pass_change.ensures.place c.pass_change.ensures.changes
                tree (p.sid + 1) (length left) sid ahead
                col (ap (λ (x : PackedRows). x.patches.now) same) old.patches_are;
            values = c.skip_row.ensures.column ty col (subst (λ (xs : List Cells). HaveValues ty col xs) (sym base_is) old.values);
          },
    )
