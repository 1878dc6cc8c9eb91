use Rattle.std.proofs.Common.{◌≡◌, ◌∙◌, ◌+◌, ◌≤◌, ℕ, List, ◌∷◌, length, map, refl, sym, ap, subst}
use Rattle.values.specs.declared.row.Row.{Row as Cells}
use Rattle.values.specs.declared.limits.TheConstants.{MAX_ROWS}
use Rattle.merge.specs.Cursor.{TreeCursor, IsCursor, InsertsNext, rows_left}
use Rattle.merge.specs.Filling.{HaveValues}
use Rattle.merge.specs.Packed.{number_at, rows_in}
use Rattle.merge.specs.PackedLeft.{IsInsertNext, base_left, cursor_of}
use Rattle.merge.specs.declared.packed_rows.PackedRows.{PackedRows}
use Rattle.merge.proofs.CursorLemmas.{inserts_next}
use Rattle.merge.proofs.PackedWalkLemmas.{IsChangeHere, change_is_here, changes_past, cursor_lawful, cursor_past, inserts_some, patches_here}
use Rattle.merge.proofs.packed_rows.PackedRows.pass_inserted.Goals.{After-pass_change}
use Rattle.merge.proofs.packed_rows.PackedRows.pass_inserted.Goals as goal

module _ (c : After-pass_change) {row : ℕ} (next : IsInsertNext row c.args.self.now) where
  abbrev old : PackedRows
  old = c.args.self.now

  abbrev new : PackedRows
  new = c.pass_change.new.self

  here : IsChangeHere (cursor_of old) old.changes.now
  here =
      change_is_here (cursor_of old) c.requires.lawful.cursor old.changes.now c.requires.lawful.changes_are
      (inserts_some old.sid (cursor_of old).index old.tree.now.entries next.inserted next.there)

  abbrev past : TreeCursor
  past = record { tree = old.tree.now; index = (cursor_of old).index + 1; sid = old.sid }

  step : InsertsNext next.inserted (cursor_of old) past
  step = inserts_next (cursor_of old) next.inserted past next.there refl

  tree : new.tree.now ≡ old.tree.now
  tree = ap (λ (x : PackedRows). x.tree.now) c.pass_change.ensures.same

  sid : new.sid ≡ old.sid
  sid = ap (λ (x : PackedRows). x.sid) c.pass_change.ensures.same

  ahead : IsCursor (length (base_left old)) past
  ahead = step.cursor (length (base_left old)) c.requires.lawful.cursor

pub returns-clause-lawful : goal.returns-clause-lawful
returns-clause-lawful c =
    let at = (goal.at.returns-clause-lawful c).After-pass_change in
    let next = c.requires.next.1 in
    let p = old at next in
    let q = new at next in
    let same = c.pass_change.ensures.same in
    let cursor = cursor_lawful p q c.requires.lawful (here at next) c.pass_change.ensures.place c.pass_change.ensures.changes
    (tree at next) p.sid (length (base_left p)) (sid at next) (ahead at next) in
    record {
      few = subst (λ (x : PackedRows). length x.below.table.now.rows ≤ MAX_ROWS) (sym same) c.requires.lawful.few;
      cursor = subst (λ n. IsCursor n (cursor_of q)) (ap (λ (x : PackedRows). length (base_left x)) (sym same)) cursor;
      changes_are =
          changes_past p q c.requires.lawful (here at next) c.pass_change.ensures.place c.pass_change.ensures.changes
          (tree at next) p.sid (length (base_left p)) (sid at next) (ahead at next);
    }

pub returns-clause-column : goal.returns-clause-column
returns-clause-column c = λ ty col column.
    let at = (goal.at.returns-clause-column c).After-pass_change in
    let next = c.requires.next.1 in
    let p = old at next in
    let q = new at next in
    let same = c.pass_change.ensures.same in
    record {
      inserted_are =
          ap (λ (x : PackedRows). x.inserted.now) same
          ∙ column.inserted_are
          ∙ ap (λ (x : PackedRows). map (number_at col) (rows_in x.tree.now.entries)) (sym same);
      patches_are =
          patches_here p q c.requires.lawful (here at next) c.pass_change.ensures.place c.pass_change.ensures.changes
          (tree at next) p.sid (length (base_left p)) (sid at next) (ahead at next) col
          (ap (λ (x : PackedRows). x.patches.now) same) column.patches_are;
      values = subst (λ (x : PackedRows). HaveValues ty col (base_left x)) (sym same) column.values;
    }

pub returns-clause-rows : goal.returns-clause-rows
returns-clause-rows c = λ row next.
    let at = (goal.at.returns-clause-rows c).After-pass_change in
    let p = old at next in
    let q = new at next in
    let cursor = cursor_past p q c.requires.lawful (here at next) c.pass_change.ensures.place c.pass_change.ensures.changes
    (tree at next) p.sid (length (base_left p)) (sid at next) (ahead at next) in
    (step at next).rows (base_left p)
    ∙ ap (λ (rows : List Cells). next.inserted ∷ rows)
    (ap (λ x. rows_left x (base_left p)) (sym cursor)
    ∙ ap (λ (x : PackedRows). rows_left (cursor_of q) (base_left x)) (sym c.pass_change.ensures.same))
