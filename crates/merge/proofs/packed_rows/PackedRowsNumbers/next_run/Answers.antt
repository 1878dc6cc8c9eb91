use Rattle.std.proofs.Common.{rules, ◌+◌, ◌∷◌, [], T, List, length, sym, ap, subst, arith, w64}
use Rattle.std.specs.Prelude.{ℤ}
use Rattle.std.specs.List.{list_all}
use Rattle.std.proofs.lemmas.Int.{to_z-of_z}
use Rattle.values.specs.declared.value.ColumnType.TheVariants as column
use Rattle.merge.specs.Cursor.{entries_left}
use Rattle.merge.specs.Filling.{is_from}
use Rattle.merge.specs.PackedLeft.{base_left, cursor_of, packed_left}
use Rattle.merge.specs.declared.packed.Patch.{Patch}
use Rattle.merge.proofs.FillingLemmas.{fills_also}
use Rattle.merge.proofs.PackedFillLemmas.{none_nearer}
use Rattle.merge.proofs.PackedLemmas.{patches_all_from}
use Rattle.merge.proofs.PackedStepLemmas.{keeps_one, within_all}
use Rattle.merge.proofs.PackedWalkLemmas.{none_is}
use Rattle.merge.proofs.packed_rows.PackedRowsNumbers.next_run.Goals as goal

pub next_inserted-requires-clause-column : goal.next_inserted-requires-clause-column
next_inserted-requires-clause-column c =
    (column.Int, c.args.col, c.pass_deleted.ensures.column column.Int c.args.col c.requires.column)

pub returns-in-Some-clause-column : goal.returns-in-Some-clause-column
returns-in-Some-clause-column c =
    c.next_inserted.ensures.column column.Int c.args.col (c.pass_deleted.ensures.column column.Int c.args.col c.requires.column)

pub returns-in-Some-clause-numbers : goal.returns-in-Some-clause-numbers
returns-in-Some-clause-numbers c =
    let col = c.args.col in
    let filled = c.next_inserted.ensures.number column.Int col (c.pass_deleted.ensures.column column.Int col c.requires.column) in
    fills_also col (packed_left c.pass_deleted.new.self) _ (packed_left c.next_inserted.new.self) _ _ c.pass_deleted.ensures.rows
    (ap (λ (n : ℤ). n ∷ []) (sym (to_z-of_z w64 c.next_inserted.result (search rules)))) filled

pub plain-plain-requires : goal.plain-plain-requires
plain-plain-requires c =
    let p = c.pass_deleted.new.self in
    let left = entries_left (cursor_of p) in
    let has = c.pass_deleted.ensures.column column.Int c.args.col c.requires.column in
    record {
      near =
          subst (λ (ps : List Patch). T (list_all (is_from p.sid) ps)) (sym has.patches_are)
          (patches_all_from c.args.col p.sid left
          (within_all p.sid (p.sid + length (base_left p)) left c.pass_deleted.ensures.lawful.cursor.over.within));
    }

pub next_modified-requires-clause-column : goal.next_modified-requires-clause-column
next_modified-requires-clause-column c = c.pass_deleted.ensures.column column.Int c.args.col c.requires.column

pub next_modified-requires-clause-kept : goal.next_modified-requires-clause-kept
next_modified-requires-clause-kept c =
    let p = c.pass_deleted.new.self in
    let lawful = c.pass_deleted.ensures.lawful in
    let none = none_is p c.inserted_next.result c.in_default.not-Some c.inserted_next.ensures in
    keeps_one (cursor_of p) lawful.cursor p.changes.now lawful.changes_are (c.pass_deleted.ensures.none, none)

pub next_plain-requires-clause-column : goal.next_plain-requires-clause-column
next_plain-requires-clause-column c = c.pass_deleted.ensures.column column.Int c.args.col c.requires.column

pub next_plain-requires-clause-none : goal.next_plain-requires-clause-none
next_plain-requires-clause-none c =
    let p = c.pass_deleted.new.self in
    none_nearer (p.sid + c.kept-rows.result) (p.sid + c.plain-plain.result) p.patches.now (omega (arith, c.kept-rows.ensures.kept.few))
    c.plain-plain.ensures.none
