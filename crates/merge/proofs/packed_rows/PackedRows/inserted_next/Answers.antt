use Rattle.std.proofs.Common.{◌≡◌, ◌∙◌, ◌<◌, ℕ, Option, Some, None, false, take, length, slice_get, sym, subst}
use Rattle.std.specs.Prelude.{MatchOption}
use Rattle.std.proofs.lemmas.Option.{slice_get_within}
use Rattle.values.specs.declared.row.Row.{Row}
use Rattle.model.specs.declared.entry.Entry.{Entry}
use Rattle.model.specs.declared.entry.Change.TheVariants.{Ins}
use Rattle.model.specs.Entries.{entry_at, is_insert}
use Rattle.merge.specs.Filling.{InsertsNone}
use Rattle.merge.specs.Packed.{row_in, rows_in}
use Rattle.merge.specs.PackedLeft.{IsInsertNext, cursor_of}
use Rattle.merge.specs.declared.packed_rows.PackedRows.{PackedRows}
use Rattle.merge.proofs.PackedStepLemmas.{change_here, change_next, change_none, change_other, inserts_other, modifies_start_none}
use Rattle.merge.proofs.packed_rows.PackedRows.inserted_next.Goals as goal

pub returns-in_err-change : goal.returns-in_err-change
returns-in_err-change c =
    let p = c.args.self.now in
    let none = sym c.next_change.ensures ∙ c.in_err-change.was in
    subst (λ (o : Option ℕ). MatchOption o (InsertsNone (cursor_of p)) (λ row. IsInsertNext row p)) (sym c.from_residual.ensures)
    (modifies_start_none p.sid _ (change_none (cursor_of p) p.changes.now c.requires.changes_are none)).1

pub returns-then-sid-self : goal.returns-then-sid-self
returns-then-sid-self c =
    let p = c.args.self.now in
    let change = c.in_ok-change.change in
    let found = sym c.next_change.ensures ∙ c.in_ok-change.was in
    let next = change_next (cursor_of p) p.changes.now change c.requires.changes_are found in
    let same = sym next.is.sid_is ∙ sym c.sid.ensures ∙ c.if-sid-self.true in
    let here = change_here (cursor_of p) c.requires.cursor change _ next same in
    by p next.entry here same (slice_get_within p.changes.now 0 change found) (row_in change) next.is.row_is
    c.inserted.result c.inserted.ensures
  where
    by : (p : PackedRows) (e : Entry) → slice_get p.tree.now.entries (cursor_of p).index ≡ Some e → e.sid ≡ p.sid → 0 < length p.changes.now
        → (o : Option ℕ)
        → MatchOption o (is_insert e.change ≡ false)
        (λ row. (inserted : Row) × (e.change ≡ Ins inserted) × (row ≡ length (rows_in (take (cursor_of p).index p.tree.now.entries))))
        → (r : Option ℕ) → r ≡ o → MatchOption r (InsertsNone (cursor_of p)) (λ row. IsInsertNext row p)
    by p e there sid some o h r is =
        subst (λ (x : Option ℕ). MatchOption x (InsertsNone (cursor_of p)) (λ row. IsInsertNext row p)) (sym is) (cases o h)
      where
        cases : (o : Option ℕ)
            → MatchOption o (is_insert e.change ≡ false)
            (λ row. (inserted : Row) × (e.change ≡ Ins inserted) × (row ≡ length (rows_in (take (cursor_of p).index p.tree.now.entries))))
            → MatchOption o (InsertsNone (cursor_of p)) (λ row. IsInsertNext row p)
        cases None h = inserts_other p.sid p.tree.now.entries (cursor_of p).index e there h
        cases (Some row) h =
            record {
              inserted = h.0;
              there = there ∙ (λ i. Some (entry_at (sid i) (h.1 i)));
              numbered = h.2;
              some = some;
            }

pub returns-else-sid-self : goal.returns-else-sid-self
returns-else-sid-self c =
    let p = c.args.self.now in
    let change = c.in_ok-change.change in
    let next = change_next (cursor_of p) p.changes.now change c.requires.changes_are (sym c.next_change.ensures ∙ c.in_ok-change.was) in
    let sid = c.sid.ensures ∙ next.is.sid_is in
    (change_other (cursor_of p) c.requires.cursor change _ next (λ same. c.if-sid-self.false (sid ∙ same))).1
