use Rattle.std.proofs.Common.{◌∙◌, List, length, take, drop, map, sym, ap, subst}
use Rattle.std.specs.Prelude.{IfSome}
use Rattle.std.specs.List.Sorted.{IsNonDecreasingBy}
use Rattle.std.specs.Option.{option_copied}
use Rattle.merge.specs.Cursor.{TreeCursor, IsCursor, entries_left, rows_left}
use Rattle.merge.specs.Filling.{patches_from}
use Rattle.merge.specs.Left.{stable_left}
use Rattle.merge.specs.Packed.{IsPacked, number_at, patches_in, row_changes_from, rows_in}
use Rattle.merge.specs.PackedLeft.{changes_left}
use Rattle.merge.specs.declared.packed.Patch.{Patch}
use Rattle.delta.specs.Tree.{Tree}
use Rattle.merge.proofs.PackedWalkLemmas.{cursor_start, patches_sorted, patches_start}
use Rattle.merge.proofs.read_rows.ReadRows.at.Goals as goal

pub returns-in-Some-column-clause-rows : goal.returns-in-Some-column-clause-rows
returns-in-Some-column-clause-rows c =
    let cursor = cursor_start c.args.read c.requires.cursor c.tree.result.now c.index.result c.args.stable.sid
    c.tree.ensures c.index.ensures c.requires.sid in
    ap (λ (x : TreeCursor). rows_left x (stable_left c.args.stable)) cursor

pub returns-in-Some-column-clause-lawful : goal.returns-in-Some-column-clause-lawful
returns-in-Some-column-clause-lawful c =
    let read = c.args.read in
    let es = read.tree.entries in
    let cursor = cursor_start read c.requires.cursor c.tree.result.now c.index.result c.args.stable.sid c.tree.ensures c.index.ensures
    c.requires.sid in
    let packed = subst (λ o. IfSome (option_copied o) (IsPacked es)) c.in-Some.is c.requires.packed in
    record {
      few = c.requires.few;
      cursor = subst (λ (x : TreeCursor). IsCursor (length (stable_left c.args.stable)) x) (sym cursor) c.requires.cursor;
      changes_are =
          c.changes_at.ensures es (c.changes.ensures ∙ packed.changes_are)
          ∙ ap (λ n. row_changes_from (length (rows_in (take n es))) n (drop n es)) c.index-in-Some-column.ensures
          ∙ ap changes_left (sym cursor);
    }

pub returns-in-Some-column-clause-column : goal.returns-in-Some-column-clause-column
returns-in-Some-column-clause-column c = λ ty have.
    let read = c.args.read in
    let col = c.args.col in
    let es = read.tree.entries in
    let cursor = cursor_start read c.requires.cursor c.tree.result.now c.index.result c.args.stable.sid c.tree.ensures c.index.ensures
    c.requires.sid in
    let packed = subst (λ o. IfSome (option_copied o) (IsPacked es)) c.in-Some.is c.requires.packed in
    let column = packed.columns_are col c.in-Some-column.column.now (sym c.column.ensures ∙ ap option_copied c.in-Some-column.is) in
    let modified = c.modified.ensures ∙ column.modified_are in
    let sorted = subst (λ (ps : List Patch). IsNonDecreasingBy (λ p. p.sid) ps) (sym modified)
    (patches_sorted read c.requires.cursor col) in
    record {
      inserted_are =
          c.inserted.ensures
          ∙ column.inserted_are
          ∙ ap (λ (t : Tree). map (number_at col) (rows_in t.entries)) (sym c.tree.ensures);
      patches_are =
          c.patches_at.ensures sorted
          ∙ ap (λ n. patches_from n c.modified.result.now) c.sid.ensures
          ∙ ap (patches_from read.sid) modified
          ∙ patches_start read c.requires.cursor col
          ∙ ap (λ (x : TreeCursor). patches_in col (entries_left x)) (sym cursor);
      values = have;
    }
