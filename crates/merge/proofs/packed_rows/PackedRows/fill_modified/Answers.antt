use Rattle.std.proofs.Common.{◌≡◌, ◌∙◌, ◌+◌, ℕ, T, List, length, drop, sym, ap, subst, arith}
use Rattle.std.specs.List.{list_all}
use Rattle.values.specs.declared.row.Row.{Row as Cells}
use Rattle.merge.specs.Cursor.{TreeCursor, entries_left}
use Rattle.merge.specs.Filling.{KeepsModified, is_from, patched, patches_before, patches_from}
use Rattle.merge.specs.Packed.{patches_in}
use Rattle.merge.specs.PackedLeft.{base_left, count_passed, cursor_of}
use Rattle.merge.specs.declared.packed.Patch.{Patch}
use Rattle.merge.specs.declared.packed_rows.PackedRows.{PackedRows}
use Rattle.merge.proofs.PackedFillLemmas.{changes_past_rows, cursor_past_rows, filled_past}
use Rattle.merge.proofs.PackedLemmas.{patches_all_from}
use Rattle.merge.proofs.PackedStepLemmas.{within_all}
use Rattle.merge.proofs.PackedWalkLemmas.{cursor_kept, patches_kept}
use Rattle.merge.proofs.packed_rows.PackedRows.fill_modified.Goals.{After-patch-self}
use Rattle.merge.proofs.packed_rows.PackedRows.fill_modified.Goals as goal

pub patch-self-requires-clause-near : goal.patch-self-requires-clause-near
patch-self-requires-clause-near c =
    let p = c.args.self.now in
    let left = entries_left (cursor_of p) in
    subst (λ (ps : List Patch). T (list_all (is_from p.sid) ps)) (sym c.requires.column.2.patches_are)
    (patches_all_from c.args.col p.sid left (within_all p.sid (p.sid + length (base_left p)) left c.requires.lawful.cursor.over.within))

pub patch-self-requires-clause-few : goal.patch-self-requires-clause-few
patch-self-requires-clause-few c =
    omega (arith, c.requires.lawful.cursor.few, c.requires.room, c.fill.ensures.length)

pub overflow_add-self : goal.overflow_add-self
overflow_add-self c =
    omega (arith, c.requires.lawful.cursor.few, c.requires.room, c.fill.ensures.length, c.patch-self.ensures.length)

module _ (c : After-patch-self) where
  abbrev before : PackedRows
  before = c.args.self.now

  abbrev m : ℕ
  m = length c.patch-self.new.out

  abbrev left : List Cells
  left = drop c.fill.new.rows.sid c.fill.new.rows.table.now.rows

  many : length c.args.out.now ≡ m
  many = sym (c.patch-self.ensures.length ∙ c.fill.ensures.length)

  kept : KeepsModified c.requires.kept.0 (count_passed m (cursor_of before)) m (cursor_of before)
  kept = subst (λ k. KeepsModified c.requires.kept.0 (count_passed k (cursor_of before)) k (cursor_of before)) many c.requires.kept.1

  is : c.patch-self.new.out ≡ patched before.sid (patches_before (before.sid + m) before.patches.now) c.fill.new.out
  is =
      c.patch-self.ensures.patched
      ∙ ap (λ k. patched before.sid (patches_before (before.sid + k) before.patches.now) c.fill.new.out) (sym c.patch-self.ensures.length)

pub returns-clause-lawful : goal.returns-clause-lawful
returns-clause-lawful c =
    let at = (goal.at.returns-clause-lawful c).After-patch-self in
    let count = c.fill.ensures.length ∙ many at in
    record {
      few = c.fill.ensures.lawful;
      cursor =
          cursor_past_rows (before at) c.requires.column.0 c.args.col c.requires.kept.0 (m at) c.requires.lawful c.requires.column.2
          (kept at) (left at) c.fill.new.out c.patch-self.new.out c.fill.ensures.numbers count (is at);
      changes_are =
          changes_past_rows (before at) c.requires.column.0 c.args.col c.requires.kept.0 (m at) c.requires.lawful c.requires.column.2
          (kept at) (left at) c.fill.new.out c.patch-self.new.out c.fill.ensures.numbers count (is at);
    }

pub returns-clause-column : goal.returns-clause-column
returns-clause-column c = λ ty column.
    let p = c.args.self.now in
    let col = c.args.col in
    let m = length c.patch-self.new.out in
    record {
      inserted_are = column.inserted_are;
      patches_are =
          c.patch-self.ensures.left
          ∙ ap (λ k. patches_from (p.sid + k) p.patches.now) (sym c.patch-self.ensures.length)
          ∙ patches_kept p m c.requires.lawful col column.patches_are
          ∙ ap (λ (x : TreeCursor). patches_in col (entries_left x)) (sym (cursor_kept p m c.requires.lawful));
      values = c.fill.ensures.column ty column.values;
    }

pub returns-clause-numbers : goal.returns-clause-numbers
returns-clause-numbers c =
    let at = (goal.at.returns-clause-numbers c).After-patch-self in
    filled_past (before at) c.requires.column.0 c.args.col c.requires.kept.0 (m at) c.requires.lawful c.requires.column.2
    (kept at) (left at) c.fill.new.out c.patch-self.new.out c.fill.ensures.numbers (c.fill.ensures.length ∙ many at) (is at)
