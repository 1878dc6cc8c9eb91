-- Cursors at a position of each layer, one on the other.
use Rattle.std.proofs.Common.{◌≡◌, ◌∙◌, ℕ, ◌<◌, ◌≤◌, ◌^◌, Option, Some, None, List, length, drop, sym, ap, subst, arith}
use Rattle.values.specs.declared.row.Row.{Row}
use Rattle.model.specs.declared.entry.Entry.{Entry}
use Rattle.model.specs.Merging.{merged_rows}
use Rattle.delta.specs.Tree.{Tree}
use Rattle.stable.specs.Stable.{Stable}
use Rattle.model.specs.Entries.{IsLawful}
use Rattle.merge.specs.Image.{Stack, stack_of, tree_over, read_rows, write_rows, image_rows}
use Rattle.merge.specs.Level.{IsOver, AreKept}
use Rattle.merge.specs.Cursor.{TreeCursor, rows_left, IsCursor, IsCursorAt}
use Rattle.merge.proofs.StackLemmas.{AreLevels, are_levels, image_rows-none}
use Rattle.std.proofs.lemmas.Grind.{common_steps}

-- what the call that places a cursor promises
abbrev pub Places : Tree → ℕ → TreeCursor → Type 0
Places tree rid c =
    (base : List Row) → IsOver tree.key_cols 0 (length base) tree.entries → IsLawful tree.key_cols tree.entries
    → length base < 2 ^ 62 → rid ≤ length (merged_rows base tree.entries) → IsCursorAt base rid c

module _ (stable : Stable) (read write trans : Tree) (len : ℕ) (h : AreKept stable read write trans len) where
  abbrev s : Stack
  s = stack_of stable read write trans

  levels : AreLevels s
  levels = are_levels stable read write trans h.stacked

  pub trans_at : (rid : ℕ) (c : TreeCursor) → rid ≤ length (image_rows s) → Places trans rid c → IsCursorAt (write_rows s) rid c
  trans_at rid c low places = grind (arith, common_steps, levels)

  pub write_at : (rid : ℕ) (c : TreeCursor) → rid ≤ length (write_rows s) → Places write rid c → IsCursorAt (read_rows s) rid c
  write_at rid c low places = grind (arith, common_steps, levels)

  pub read_at : (rid : ℕ) (c : TreeCursor) → rid ≤ length (read_rows s) → Places read rid c → IsCursorAt stable.rows rid c
  read_at rid c low places = grind (arith, common_steps, levels)

-- what is left under the two lower layers
module _ (rows : List Row) (read write : List Entry) (r w : TreeCursor) (rid : ℕ) (hr : IsCursorAt rows w.sid r)
    (hw : IsCursorAt (merged_rows rows read) rid w) (r_is : r.tree.entries ≡ read) (w_is : w.tree.entries ≡ write) where
  read_is : rows_left r (drop r.sid rows) ≡ drop w.sid (merged_rows rows read)
  read_is = hr.rows ∙ ap (λ (es : List Entry). drop w.sid (merged_rows rows es)) r_is

  pub write_is : rows_left w (rows_left r (drop r.sid rows)) ≡ drop rid (merged_rows (merged_rows rows read) write)
  write_is = ap (rows_left w) read_is ∙ hw.rows ∙ ap (λ (es : List Entry). drop rid (merged_rows (merged_rows rows read) es)) w_is

  pub write_stands : IsCursor (length (rows_left r (drop r.sid rows))) w
  write_stands = subst (λ (xs : List Row). IsCursor (length xs) w) (sym read_is) hw.cursor

-- and under a tree over them
module _ (base left : List Row) (trans : List Entry) (t : TreeCursor) (rid : ℕ) (ht : IsCursorAt base rid t)
    (left_is : left ≡ drop t.sid base) (t_is : t.tree.entries ≡ trans) where
  pub own_is : rows_left t left ≡ drop rid (merged_rows base trans)
  own_is = ap (rows_left t) left_is ∙ ht.rows ∙ ap (λ (es : List Entry). drop rid (merged_rows base es)) t_is

  pub own_stands : IsCursor (length left) t
  own_stands = subst (λ (xs : List Row). IsCursor (length xs) t) (sym left_is) ht.cursor

-- the rows that are left under a tree on top: so many of the base's are passed, and the cursor stands over the others
pub record IsOnTop (base rows : List Row) (rid : ℕ) (t : TreeCursor) : Type 0 where
  pub within : t.sid ≤ length base
  pub rows_are : (left : List Row) → left ≡ drop t.sid base → rows_left t left ≡ drop rid rows
  pub stands : (left : List Row) → left ≡ drop t.sid base → IsCursor (length left) t

-- layers as they keep them, seen as a stack
module _ (stable : Stable) (read write : Tree) (over : Option Tree) (len : ℕ) (s : Stack)
    (view : stack_of stable read write (tree_over stable.schema.key_cols over) ≡ s)
    (kept : AreKept stable read write (tree_over stable.schema.key_cols over) len) where
  pub counted_is : len ≡ length (image_rows s)
  counted_is = kept.counted ∙ ap (λ (x : Stack). length (image_rows x)) view

  -- as they stand where it is known what is on top
  view_with : (top : Option Tree) → over ≡ top → stack_of stable read write (tree_over stable.schema.key_cols top) ≡ s
  view_with top is = ap (λ o. stack_of stable read write (tree_over stable.schema.key_cols o)) (sym is) ∙ view

  -- with no tree on top the image is what the two lower layers leave
  pub none_on_top : over ≡ None → write_rows s ≡ image_rows s
  none_on_top none = grind (arith, common_steps, view_with, image_rows-none)

  pub tree_on_top : (trans : Tree) → over ≡ Some trans → (rid : ℕ) (t : TreeCursor) → rid ≤ length (image_rows s) → Places trans rid t
      → t.tree ≡ trans → IsOnTop (write_rows s) (image_rows s) rid t
  tree_on_top trans some rid t low places tree_is =
      let known = view_with (Some trans) some in
      let own = subst (λ (o : Option Tree). AreKept stable read write (tree_over stable.schema.key_cols o) len) some kept in
      let at = trans_at stable read write trans len own rid t (subst (λ (x : Stack). rid ≤ length (image_rows x)) (sym known) low) places in
      let entries = ap (λ (x : Tree). x.entries) tree_is in
      let base = write_rows (stack_of stable read write trans) in
      record {
        within = subst (λ (x : Stack). t.sid ≤ length (write_rows x)) known at.within;
        rows_are = λ left is.
            own_is base left trans.entries t rid at (is ∙ ap (λ (x : Stack). drop t.sid (write_rows x)) (sym known)) entries
            ∙ ap (λ (x : Stack). drop rid (image_rows x)) known;
        stands = λ left is.
            own_stands base left trans.entries t rid at (is ∙ ap (λ (x : Stack). drop t.sid (write_rows x)) (sym known)) entries;
      }
