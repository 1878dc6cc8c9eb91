-- The same layers over other stable rows, as many as there are.
use Rattle.std.proofs.Common.{◌≡◌, ℕ, suc, ◌≤◌, None, List, [], ◌∷◌, ◌++◌, length, drop, refl, sym, ap, subst, arith}
use Rattle.std.proofs.Common.{length-append, length-drop}
use Rattle.std.specs.Prelude.{slice_set}
use Rattle.values.specs.declared.row.Row.{Row}
use Rattle.model.specs.declared.entry.Entry.{Entry}
use Rattle.model.specs.declared.entry.Change.{Change}
use Rattle.model.specs.declared.entry.Change.TheVariants.{Ins, Del, Mod}
use Rattle.model.specs.Merging.{changes_at, inserted_rows, left_of, merged_rows, merged_rows_from}
use Rattle.delta.specs.Tree.{Tree}
use Rattle.stable.specs.Stable.{Stable}
use Rattle.merge.specs.Image.{Stack, stack_of, stack_over, tree_over, read_rows, write_rows, image_rows}
use Rattle.merge.specs.Level.{IsOver, AreKept}
use Rattle.merge.specs.Cursor.{TreeCursor, rows_left, IsCursorAt}
use Rattle.merge.proofs.LeftLemmas.{Places, read_at, write_at, write_is, own_is}
use Rattle.merge.proofs.StackLemmas.{AreLevels, are_levels, merged_rows-nothing}
use Rattle.std.proofs.lemmas.Grind.{common_steps}

-- ---- as many rows are merged from as many

length-left_of : (x y : Row) (changes : List Change) → length (left_of x changes) ≡ length (left_of y changes)
length-left_of x y [] = refl
length-left_of x y (Ins row ∷ changes) = length-left_of x y changes
length-left_of x y (Del key ∷ changes) = refl
length-left_of x y (Mod col value ∷ changes) = length-left_of (slice_set x col value) (slice_set y col value) changes

length-merged_rows_from : (n : ℕ) (xs ys : List Row) (es : List Entry) → length xs ≡ length ys
    → length (merged_rows_from n xs es) ≡ length (merged_rows_from n ys es)
length-merged_rows_from n [] [] es same = refl
length-merged_rows_from n [] (y ∷ ys) es same = absurd (omega arith)
length-merged_rows_from n (x ∷ xs) [] es same = absurd (omega arith)
length-merged_rows_from n (x ∷ xs) (y ∷ ys) es same =
    let changes = changes_at n es in
    let shorter : length xs ≡ length ys = omega arith in
    omega (
      arith,
      length-append (inserted_rows changes) (left_of x changes ++ merged_rows_from (suc n) xs es),
      length-append (inserted_rows changes) (left_of y changes ++ merged_rows_from (suc n) ys es),
      length-append (left_of x changes) (merged_rows_from (suc n) xs es),
      length-append (left_of y changes) (merged_rows_from (suc n) ys es),
      length-left_of x y changes,
      length-merged_rows_from (suc n) xs ys es shorter,
    )

pub length-merged_rows : (xs ys : List Row) (es : List Entry) → length xs ≡ length ys
    → length (merged_rows xs es) ≡ length (merged_rows ys es)
length-merged_rows xs ys es same = length-merged_rows_from 0 xs ys es same

-- the image of a tree at a position, over rows as many as there are
module _ (tree : Tree) (rid : ℕ) (c : TreeCursor) (xs ys : List Row) (same : length ys ≡ length xs) (at : IsCursorAt xs rid c)
    (over : IsCursorAt ys rid c) where
  pub length-rows_left : length (rows_left c (drop c.sid ys)) ≡ length (rows_left c (drop c.sid xs))
  length-rows_left = grind (arith, common_steps, length-drop, length-merged_rows)

module _ (stable : Stable) (read write trans : Tree) (len : ℕ) (h : AreKept stable read write trans len) (base : List Row)
    (same : length base ≡ length stable.rows) where
  abbrev s : Stack
  s = stack_of stable read write trans

  abbrev o : Stack
  o = stack_over base s

  levels : AreLevels s
  levels = are_levels stable read write trans h.stacked

  read_length : length (read_rows o) ≡ length (read_rows s)
  read_length = length-merged_rows base stable.rows read.entries same

  write_length : length (write_rows o) ≡ length (write_rows s)
  write_length = length-merged_rows (read_rows o) (read_rows s) write.entries read_length

  image_length : length (image_rows o) ≡ length (image_rows s)
  image_length = length-merged_rows (write_rows o) (write_rows s) trans.entries write_length

  -- a cursor over entries stands over rows as many as those
  moved_to : (key_cols : ℕ) (es : List Entry) (xs ys : List Row) → length ys ≡ length xs → IsOver key_cols 0 (length xs) es
      → IsOver key_cols 0 (length ys) es
  moved_to key_cols es xs ys e is = subst (λ n. IsOver key_cols 0 n es) (sym e) is

  read_over : (rid : ℕ) (c : TreeCursor) → rid ≤ length (read_rows s) → Places read rid c → IsCursorAt base rid c
  read_over rid c low places = grind (arith, common_steps, read_length, moved_to, levels)

  write_over : (rid : ℕ) (c : TreeCursor) → rid ≤ length (write_rows s) → Places write rid c → IsCursorAt (read_rows o) rid c
  write_over rid c low places = grind (arith, common_steps, read_length, write_length, moved_to, levels)

  trans_over : (rid : ℕ) (c : TreeCursor) → rid ≤ length (image_rows s) → Places trans rid c → IsCursorAt (write_rows o) rid c
  trans_over rid c low places = grind (arith, common_steps, write_length, image_length, moved_to, levels)

  -- what is left under the two lower layers
  module _ (rid : ℕ) (r w : TreeCursor) (low : rid ≤ length (write_rows s)) (w_places : Places write rid w) (sid : ℕ) (sid_is : sid ≡ w.sid)
      (r_places : Places read sid r) (r_is : r.tree ≡ read) (w_is : w.tree ≡ write) where
    w_at : IsCursorAt (read_rows s) rid w
    w_at = write_at stable read write trans len h rid w low w_places

    sid_low : sid ≤ length (read_rows s)
    sid_low = subst (λ n. n ≤ length (read_rows s)) (sym sid_is) w_at.within

    r_at : IsCursorAt stable.rows sid r
    r_at = read_at stable read write trans len h sid r sid_low r_places

    r_over : IsCursorAt base sid r
    r_over = read_over sid r sid_low r_places

    pub lower_alike : length (rows_left r (drop r.sid base)) ≡ length (rows_left r (drop r.sid stable.rows))
    lower_alike = length-rows_left read sid r stable.rows base same r_at r_over

    pub lower_is : rows_left w (rows_left r (drop r.sid base)) ≡ drop rid (write_rows o)
    lower_is = grind (arith, common_steps, write_is, r_over, write_over)

  -- and under the tree on top
  module _ (rid : ℕ) (t : TreeCursor) (low : rid ≤ length (image_rows s)) (places : Places trans rid t) (t_is : t.tree ≡ trans)
      (left under : List Row) (left_is : left ≡ drop t.sid (write_rows o)) (under_is : under ≡ drop t.sid (write_rows s)) where
    pub upper_is : rows_left t left ≡ drop rid (image_rows o)
    upper_is = own_is (write_rows o) left trans.entries t rid (trans_over rid t low places) left_is (ap (λ (x : Tree). x.entries) t_is)

    pub upper_alike : length left ≡ length under
    upper_alike = grind (arith, common_steps, length-drop, write_length)

-- with no tree on top the image is what the two lower layers leave, over these stable rows too
pub none_over : (stable : Stable) (read write : Tree) (base : List Row)
    → write_rows (stack_over base (stack_of stable read write (tree_over stable.schema.key_cols None)))
    ≡ image_rows (stack_over base (stack_of stable read write (tree_over stable.schema.key_cols None)))
none_over stable read write base =
    sym (merged_rows-nothing (write_rows (stack_over base (stack_of stable read write (tree_over stable.schema.key_cols None)))))
