use Rattle.std.proofs.Common.{◌≡◌, ◌∙◌, ◌+◌, ◌≤◌, ℕ, [], List, length, drop, sym, ap, subst, arith}
use Rattle.std.specs.Prelude.{ℤ}
use Rattle.values.specs.declared.row.Row.{Row as Cells}
use Rattle.values.specs.declared.limits.TheConstants.{MAX_ROWS}
use Rattle.values.specs.declared.value.ColumnType.TheVariants as column
use Rattle.merge.specs.Cursor.{TreeCursor, entries_left}
use Rattle.merge.specs.Filling.{KeepsModified, numbers_in, patched, patches_before}
use Rattle.merge.specs.Fitting.{StandsAt}
use Rattle.merge.specs.Packed.{patches_in}
use Rattle.merge.specs.PackedLeft.{base_left, count_passed, cursor_of}
use Rattle.merge.specs.declared.packed.Patch.{Patch}
use Rattle.merge.specs.declared.packed_rows.PackedRows.{PackedRows}
use Rattle.merge.proofs.FillingLemmas.{all_filled}
use Rattle.merge.proofs.PackedFillLemmas.{changes_past_rows, cursor_past_rows, filled_past, none_passed}
use Rattle.merge.proofs.PackedWalkLemmas.{cursor_kept, patches_kept}
use Rattle.merge.proofs.packed_rows.PackedRows.next_plain.Goals.{After-len}
use Rattle.merge.proofs.packed_rows.PackedRows.next_plain.Goals as goal

module _ (c : After-len) where
  abbrev before : PackedRows
  before = c.args.self.now

  abbrev m : ℕ
  m = c.len.result

  abbrev left : List Cells
  left = drop c.next_in_block-run.new.self.sid c.next_in_block-run.new.self.table.now.rows

  abbrev numbers : List ℤ
  numbers = numbers_in c.next_in_block-run.result

  many : c.args.rows ≡ m
  many = omega (arith, c.len.ensures, c.next_in_block-run.ensures.count, c.requires.block)

  kept : KeepsModified c.requires.kept.0 (count_passed m (cursor_of before)) m (cursor_of before)
  kept = subst (λ k. KeepsModified c.requires.kept.0 (count_passed k (cursor_of before)) k (cursor_of before)) many c.requires.kept.1

  none : patches_before (before.sid + m) before.patches.now ≡ []
  none = ap (λ k. patches_before (before.sid + k) before.patches.now) (sym many) ∙ c.requires.none

  is : numbers ≡ patched before.sid (patches_before (before.sid + m) before.patches.now) numbers
  is = ap (λ (ps : List Patch). patched before.sid ps numbers) (sym none)

pub returns-clause-lawful : goal.returns-clause-lawful
returns-clause-lawful c =
    let at = (goal.at.returns-clause-lawful c).After-len in
    record {
      few =
          subst (λ (rows : List Cells). length rows ≤ MAX_ROWS) (ap (λ t. t.now.rows) (sym c.next_in_block-run.ensures.table))
          c.requires.lawful.few;
      cursor =
          cursor_past_rows (before at) column.Int c.args.col c.requires.kept.0 (m at) c.requires.lawful c.requires.column
          (kept at) (left at) (numbers at) (numbers at) c.next_in_block-run.ensures.numbers (sym c.len.ensures) (is at);
      changes_are =
          changes_past_rows (before at) column.Int c.args.col c.requires.kept.0 (m at) c.requires.lawful c.requires.column
          (kept at) (left at) (numbers at) (numbers at) c.next_in_block-run.ensures.numbers (sym c.len.ensures) (is at);
    }

pub returns-clause-column : goal.returns-clause-column
returns-clause-column c =
    let at = (goal.at.returns-clause-column c).After-len in
    let p = before at in
    record {
      inserted_are = c.requires.column.inserted_are;
      patches_are =
          sym (none_passed (p.sid + m at) p.patches.now (none at))
          ∙ patches_kept p (m at) c.requires.lawful c.args.col c.requires.column.patches_are
          ∙ ap (λ (x : TreeCursor). patches_in c.args.col (entries_left x)) (sym (cursor_kept p (m at) c.requires.lawful));
      values =
          all_filled (StandsAt column.Int c.args.col) c.args.col (base_left p) (left at) (numbers at)
          c.next_in_block-run.ensures.numbers c.requires.column.values;
    }

pub returns-clause-numbers : goal.returns-clause-numbers
returns-clause-numbers c =
    let at = (goal.at.returns-clause-numbers c).After-len in
    filled_past (before at) column.Int c.args.col c.requires.kept.0 (m at) c.requires.lawful c.requires.column
    (kept at) (left at) (numbers at) (numbers at) c.next_in_block-run.ensures.numbers (sym c.len.ensures) (is at)
