-- Cursors in the lower layers that start at a position, where the numbers of a column are read.
use Rattle.std.proofs.Common.{◌≡◌, ◌∙◌, Option, ℕ, ◌<◌, ◌≤◌, List, length, drop, take, get_or, sym, ap, subst}
use Rattle.std.specs.List.{All}
use Rattle.std.proofs.lemmas.List.Elements.{All-drop, All-same, All-take, All-weaker}
use Rattle.values.specs.declared.row.Row.{Row}
use Rattle.values.specs.declared.value.ColumnType.TheVariants as column
use Rattle.model.specs.Table.{IsTable}
use Rattle.delta.specs.Tree.{Tree}
use Rattle.stable.specs.Stable.{Stable}
use Rattle.merge.specs.Cursor.{TreeCursor, IsCursor, IsCursorAt, rows_left}
use Rattle.merge.specs.Filling.{HaveValues, IsWide}
use Rattle.merge.specs.Fitting.{StandsAt}
use Rattle.merge.specs.Image.{Stack, stack_of, tree_over, read_rows, write_rows, image_rows, image_table}
use Rattle.merge.specs.Packed.{type_at}
use Rattle.merge.specs.Level.{AreKept}
use Rattle.merge.proofs.LeftLemmas.{Places, read_at, write_at, write_is, write_stands}
use Rattle.merge.proofs.RunLemmas.{table_stands}
use Rattle.merge.proofs.StackLemmas.{image_is_table, read_is_table, stable_is_table, write_is_table}

-- cursors in the Write- and the Read-PDT that show the row at a position first, over the base rows that are left
pub record IsPlaced (s : Stack) (rid : ℕ) (w r : TreeCursor) (base : List Row) : Type 0 where
  pub rows : rows_left w (rows_left r base) ≡ drop rid (write_rows s)
  pub stands : IsCursor (length (rows_left r base)) w
  pub cursor : IsCursor (length base) r
  pub wide : (col : ℕ) → col < length s.schema.types → All (IsWide col) (rows_left r base)
  pub values : (col : ℕ) → col < length s.schema.types → HaveValues (type_at s.schema col) col base

module _ (stable : Stable) (read write top : Tree) (len : ℕ) (h : AreKept stable read write top len) where
  abbrev s : Stack
  s = stack_of stable read write top

  -- the rows at each level have the column
  wide_stable : (col : ℕ) → col < length stable.schema.types → HaveValues (type_at stable.schema col) col stable.rows
  wide_stable col lt = table_stands stable.schema stable.rows col (stable_is_table stable read write top h.stacked) lt

  wide_read : (col : ℕ) → col < length stable.schema.types → All (IsWide col) (read_rows s)
  wide_read col lt =
      All-weaker (StandsAt (get_or stable.schema.types col column.Int) col) (IsWide col) (λ row stands. stands.wide) (read_rows s)
      (table_stands stable.schema (read_rows s) col (read_is_table stable read write top h.stacked) lt)

  wide_write : (col : ℕ) → col < length stable.schema.types → All (IsWide col) (write_rows s)
  wide_write col lt =
      All-weaker (StandsAt (get_or stable.schema.types col column.Int) col) (IsWide col) (λ row stands. stands.wide) (write_rows s)
      (table_stands stable.schema (write_rows s) col (write_is_table stable read write top h.stacked) lt)

  module _ (rid : ℕ) (low : rid ≤ length (write_rows s)) (w r : TreeCursor) (places_w : Places write rid w)
      (places_r : Places read w.sid r) (w_tree : w.tree ≡ write) (r_tree : r.tree ≡ read) where
    at_write : IsCursorAt (read_rows s) rid w
    at_write = write_at stable read write top len h rid w low places_w

    at_read : IsCursorAt stable.rows w.sid r
    at_read = read_at stable read write top len h w.sid r at_write.within places_r

    pub placed : (base : List Row) → base ≡ drop r.sid stable.rows → IsPlaced s rid w r base
    placed base base_is =
        let left : rows_left r base ≡ rows_left r (drop r.sid stable.rows) = ap (rows_left r) base_is in
        let r_entries = ap (λ (t : Tree). t.entries) r_tree in
        let w_entries = ap (λ (t : Tree). t.entries) w_tree in
        let in_read : rows_left r base ≡ drop w.sid (read_rows s) =
        left ∙ at_read.rows ∙ ap (λ (t : Tree). drop w.sid (read_rows (stack_of stable t write top))) r_tree in
        record {
          rows =
              ap (rows_left w) left
              ∙ write_is stable.rows read.entries write.entries r w rid at_read at_write r_entries w_entries;
          stands =
              subst (λ (xs : List Row). IsCursor (length xs) w) (sym left)
              (write_stands stable.rows read.entries write.entries r w rid at_read at_write r_entries w_entries);
          cursor = subst (λ (xs : List Row). IsCursor (length xs) r) (sym base_is) at_read.cursor;
          wide = λ col lt.
              All-same (IsWide col) (rows_left r base) (drop w.sid (read_rows s)) in_read
              (All-drop (IsWide col) w.sid (read_rows s) (wide_read col lt));
          values = λ col lt.
              let Here : Row → Type 0 = StandsAt (type_at stable.schema col) col in
              All-same Here base (drop r.sid stable.rows) base_is (All-drop Here r.sid stable.rows (wide_stable col lt));
        }

-- layers as they keep them, seen as a stack
module _ (stable : Stable) (read write : Tree) (over : Option Tree) (len : ℕ) (s : Stack)
    (view : stack_of stable read write (tree_over stable.schema.key_cols over) ≡ s)
    (kept : AreKept stable read write (tree_over stable.schema.key_cols over) len) where
  abbrev top : Tree
  top = tree_over stable.schema.key_cols over

  -- the rows under a tree on top have the column
  pub wide_under : (col : ℕ) → col < length s.schema.types → All (IsWide col) (write_rows s)
  wide_under col lt =
      subst (λ (x : Stack). All (IsWide col) (write_rows x)) view
      (wide_write stable read write top len kept col (subst (λ (x : Stack). col < length x.schema.types) (sym view) lt))

  pub placed_under : (rid : ℕ) (w r : TreeCursor) (below sid : ℕ) → rid ≤ length (write_rows s) → Places write rid w
      → Places read below r → below ≡ w.sid → sid ≡ r.sid → w.tree ≡ write → r.tree ≡ read
      → IsPlaced s rid w r (drop sid stable.rows)
  placed_under rid w r below sid low places_w places_r below_is sid_is w_tree r_tree =
      subst (λ (x : Stack). IsPlaced x rid w r (drop sid stable.rows)) view
      (placed stable read write top len kept rid (subst (λ (x : Stack). rid ≤ length (write_rows x)) (sym view) low) w r places_w
      (subst (λ n. Places read n r) below_is places_r) w_tree r_tree (drop sid stable.rows) (ap (λ n. drop n stable.rows) sid_is))

  -- the rows of the image have values of the column's type in it
  pub image_values : (col : ℕ) → col < length s.schema.types → (from count : ℕ)
      → HaveValues (type_at s.schema col) col (take count (drop from (image_rows s)))
  image_values col there from count =
      let table = subst (λ (x : Stack). IsTable x.schema (image_table x)) view (image_is_table stable read write top kept.stacked) in
      let Here : Row → Type 0 = StandsAt (type_at s.schema col) col in
      let all = table_stands s.schema (image_rows s) col table there in
      All-take Here count (drop from (image_rows s)) (All-drop Here from (image_rows s) all)
