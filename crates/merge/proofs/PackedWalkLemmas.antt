-- The walk over a packed tree, past an insert or a delete and past modifies.
use Rattle.std.proofs.Common.{◌≡◌, ◌∙◌, ℕ, ◌+◌, T, true, false, Option, Some, None, List, drop, slice_get, refl, sym, ap, subst, arith}
use Rattle.std.proofs.lemmas.List.{drop-drop}
use Rattle.values.specs.declared.row.Row.{Row}
use Rattle.delta.specs.Tree.{Tree}
use Rattle.model.specs.declared.entry.Entry.{Entry}
use Rattle.model.specs.declared.entry.Change.TheVariants.{Ins}
use Rattle.model.specs.Entries.{entry_at}
use Rattle.merge.specs.Cursor.{TreeCursor, IsCursor, entries_left, starts_with_delete}
use Rattle.merge.specs.Filling.{InsertsNone, past_modifies, patches_from, starts_with_insert}
use Rattle.merge.specs.PackedLeft.{IsInsertNext, IsPackedRows, changes_left, count_before, count_passed, cursor_of}
use Rattle.merge.specs.Packed.{patches_in, place_of}
use Rattle.merge.specs.declared.packed.Patch.{Patch}
use Rattle.merge.specs.declared.packed.RowChange.{RowChange}
use Rattle.merge.specs.declared.packed_rows.PackedRows.{PackedRows}
use Rattle.std.specs.Prelude.{◌==◌, ◌&&◌, MatchOption}
use Rattle.std.specs.List.Sorted.{IsNonDecreasingBy}
use Rattle.merge.proofs.PackedLemmas.{patches_ascend, patches_from_place}
use Rattle.merge.proofs.CursorLemmas.{drop-at, same_itself, same_of}
use Rattle.merge.proofs.PackedStepLemmas.{IsChangeAt, StartsNone, change_next, change_none, change_other, count-add, count-none, within_all}
use Rattle.merge.proofs.PackedStepLemmas.{modifies_start_none, past_change, past_changes, past_patches, patches_past}

-- ---- past an insert or a delete

-- the next insert or delete stands at the next base row's place
pub record IsChangeHere (c : TreeCursor) (changes : List RowChange) : Type 0 where
  pub change : RowChange
  pub first : slice_get changes 0 ≡ Some change
  pub next : IsChangeAt c change (drop 1 changes)
  pub same : next.entry.sid ≡ c.sid

pub change_is_here : (c : TreeCursor) {count : ℕ} → IsCursor count c → (changes : List RowChange) → changes ≡ changes_left c
    → (StartsNone c.sid (entries_left c) → ⊥) → IsChangeHere c changes
change_is_here c cursor changes are some = by (slice_get changes 0) refl
  where
    by : (o : Option RowChange) → slice_get changes 0 ≡ o → IsChangeHere c changes
    by None is = absurd (some (modifies_start_none c.sid (entries_left c) (change_none c changes are is)))
    by (Some change) is =
        let next = change_next c changes change are is in
        elim (next.entry.sid == c.sid) as (λ b. (next.entry.sid == c.sid) ≡ b → IsChangeHere c changes) [
          | true ↦ λ k. record { change = change; first = is; next = next; same = same_of next.entry.sid c.sid k }
          | false ↦ λ k. absurd (some (change_other c cursor change (drop 1 changes) next (apart next.entry.sid k)))
        ] refl
      where
        apart : (n : ℕ) → (n == c.sid) ≡ false → n ≡ c.sid → ⊥
        apart n k e = let t = sym (ap (λ m. m == c.sid) e ∙ same_itself c.sid) ∙ k in cc

pub deletes_some : (sid : ℕ) (es : List Entry) → starts_with_delete sid es ≡ true → StartsNone sid es → ⊥
deletes_some sid es is none = let e = sym is ∙ none.0 in cc

pub inserts_some : (sid i : ℕ) (es : List Entry) (row : Row) → slice_get es i ≡ Some (entry_at sid (Ins row))
    → StartsNone sid (drop i es) → ⊥
inserts_some sid i es row is none =
    let test = ap (starts_with_insert sid) (drop-at es i (entry_at sid (Ins row)) is) ∙ ap (λ b. b && true) (same_itself sid) in
    let e = sym test ∙ none.1 in
    cc

module _ (p q : PackedRows) (lawful : IsPackedRows p) (here : IsChangeHere (cursor_of p) p.changes.now)
    (place : (change : RowChange) → slice_get p.changes.now 0 ≡ Some change → q.place ≡ place_of change + 1)
    (changes : q.changes.now ≡ drop 1 p.changes.now) (tree : q.tree.now ≡ p.tree.now)
    (sid more : ℕ) (sid_is : q.sid ≡ sid)
    (over : IsCursor more (record { tree = p.tree.now; index = (cursor_of p).index + 1; sid = sid })) where
  abbrev past_here : TreeCursor
  past_here = record { tree = p.tree.now; index = (cursor_of p).index + 1; sid = sid }

  pub cursor_past : cursor_of q ≡ past_here
  cursor_past =
      (λ i. record { tree = tree i; index = q.place + count_before (sid_is i) (drop q.place (tree i).entries); sid = sid_is i })
      ∙ ap (λ n. record { tree = p.tree.now; index = n; sid = sid })
      (past_change (cursor_of p) lawful.cursor here.change (drop 1 p.changes.now) here.next here.same sid more over q.place
      (place here.change here.first))

  pub cursor_lawful : IsCursor more (cursor_of q)
  cursor_lawful = subst (λ (c : TreeCursor). IsCursor more c) (sym cursor_past) over

  pub changes_past : q.changes.now ≡ changes_left (cursor_of q)
  changes_past =
      changes
      ∙ past_changes (cursor_of p) lawful.cursor here.change (drop 1 p.changes.now) here.next here.same sid more over
      ∙ ap changes_left (sym cursor_past)

  pub patches_here : (col : ℕ) → q.patches.now ≡ p.patches.now → p.patches.now ≡ patches_in col (entries_left (cursor_of p))
      → q.patches.now ≡ patches_in col (entries_left (cursor_of q))
  patches_here col same are =
      same
      ∙ are
      ∙ past_patches (cursor_of p) lawful.cursor here.change (drop 1 p.changes.now) here.next here.same sid more over col
      ∙ ap (λ c. patches_in col (entries_left c)) (sym cursor_past)

-- a walk that finds no insert is at none
pub none_is : (p : PackedRows) (o : Option ℕ) → ((row : ℕ) → o ≡ Some row → ⊥)
    → MatchOption o (InsertsNone (cursor_of p)) (λ row. IsInsertNext row p) → InsertsNone (cursor_of p)
none_is p None other h = h
none_is p (Some row) other h = absurd (other row refl)

-- ---- past base rows

module _ (p : PackedRows) (m : ℕ) (lawful : IsPackedRows p) where
  abbrev pub passed : TreeCursor
  passed = past_modifies (count_passed m (cursor_of p)) m (cursor_of p)

  -- the cursor of a walk that stands so many base rows on
  pub cursor_kept
      : record { tree = p.tree.now; index = p.place + count_before (p.sid + m) (drop p.place p.tree.now.entries); sid = p.sid + m }
      ≡ passed
  cursor_kept =
      let es = p.tree.now.entries in
      let b = count_before p.sid (drop p.place es) in
      let left = drop-drop b p.place es in
      ap (λ n. record { tree = p.tree.now; index = n; sid = p.sid + m })
      (omega (arith, count-add p.sid m (drop p.place es), ap (count_before (p.sid + m)) left))

  pub patches_kept : (col : ℕ) → p.patches.now ≡ patches_in col (entries_left (cursor_of p))
      → patches_from (p.sid + m) p.patches.now ≡ patches_in col (entries_left passed)
  patches_kept col are =
      let c = cursor_of p in
      ap (patches_from (p.sid + m)) are
      ∙ (patches_past p.tree.now.key_cols (p.sid + m) col (entries_left c) lawful.cursor.over.ordered).1
      ∙ ap (patches_in col) (drop-drop (count_passed m c) c.index p.tree.now.entries)

-- ---- where a walk begins

module _ (read : TreeCursor) {count : ℕ} (cursor : IsCursor count read) where
  pub cursor_start : (tree : Tree) (index sid : ℕ) → tree ≡ read.tree → index ≡ read.index → sid ≡ read.sid
      → record { tree = tree; index = index + count_before sid (drop index tree.entries); sid = sid } ≡ read
  cursor_start tree index sid tree_is index_is sid_is =
      let none = count-none read.sid (entries_left read) (within_all read.sid (read.sid + count) (entries_left read) cursor.over.within) in
      (λ i. record {
        tree = tree_is i;
        index = index_is i + count_before (sid_is i) (drop (index_is i) (tree_is i).entries);
        sid = sid_is i;
      })
      ∙ ap (λ n. record { tree = read.tree; index = n; sid = read.sid }) (omega (arith, none))

  pub patches_start : (col : ℕ) → patches_from read.sid (patches_in col read.tree.entries) ≡ patches_in col (entries_left read)
  patches_start col =
      patches_from_place col read.sid read.index read.tree.entries cursor.past
      (within_all read.sid (read.sid + count) (entries_left read) cursor.over.within)

  pub patches_sorted : (col : ℕ) → IsNonDecreasingBy (λ (p : Patch). p.sid) (patches_in col read.tree.entries)
  patches_sorted col = patches_ascend read.tree.key_cols col read.tree.entries (subst T (sym cursor.lawful.ordered) tt)
