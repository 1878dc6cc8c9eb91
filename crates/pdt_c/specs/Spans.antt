-- What C is told of what an image is made of.
use Rattle.std.specs.Prelude.{◌≡◌, ◌≢◌, ℕ, ◌+◌, ◌<◌, ◌≤◌, Some, List, [], ◌∷◌, length, take, drop, get_or, min, slice_get}
use Rattle.values.specs.declared.row.Row.{Row}
use Rattle.model.specs.Effects.{Cells, set_cells}
use Rattle.model.specs.Table.{rows_of}
use Rattle.merge.specs.Image.{Stack, image_rows, stack_over}
use Rattle.merge.specs.Stretches.{stretch_over, stretch_rows}
use Rattle.merge.specs.View.{row_over}
use Rattle.merge.specs.declared.stretch.Stretch.{Stretch}
use Rattle.merge.specs.declared.view.RowView.{RowView}
use Rattle.txn.specs.Txn.{Transaction, image_of}
use Rattle.pdt_c.specs.declared.calls.stretches.Span.{Span}
use Rattle.pdt_c.specs.declared.calls.stretches.TheConstants.{CHANGED, INSERTED, STABLE}

-- what a span tells of the rows at its position is so over any stable rows that are as many: it has so many of them from a SID on,
-- or one row: the stable one of a SID with the same cells set over all of them, or one that a layer inserts and that is the same
pub record IsSpan (stack : Stack) (span : Span) : Type 0 where
  pub some : 0 < span.rows
  pub stable : span.source ≡ STABLE → (base : List Row) → length base ≡ length stack.rows
      → take span.rows (drop span.position (image_rows (stack_over base stack))) ≡ take span.rows (drop span.sid base)
  pub known : span.source ≢ STABLE → span.source ≢ CHANGED → span.source ≡ INSERTED
  pub one : span.source ≢ STABLE → span.rows ≡ 1
  pub changed : span.source ≡ CHANGED
      → (cells : Cells) × ((base : List Row) → length base ≡ length stack.rows
      → take 1 (drop span.position (image_rows (stack_over base stack))) ≡ set_cells cells (get_or base span.sid []) ∷ [])
  pub inserted : span.source ≡ INSERTED → (base : List Row) → length base ≡ length stack.rows
      → take 1 (drop span.position (image_rows (stack_over base stack))) ≡ take 1 (drop span.position (image_rows stack))

-- the span of a stretch whose first row has that position
pub record IsSpanOf (stretch : Stretch) (rid : ℕ) (span : Span) : Type 0 where
  pub position_is : span.position ≡ rid
  pub rows_are : span.rows ≡ length (stretch_rows stretch)
  pub stable : span.source ≡ STABLE → (base : List Row) → stretch_over base stretch ≡ take span.rows (drop span.sid base)
  pub known : span.source ≢ STABLE → span.source ≢ CHANGED → span.source ≡ INSERTED
  pub one : span.source ≢ STABLE → span.rows ≡ 1
  pub changed : span.source ≡ CHANGED
      → (cells : Cells) × ((base : List Row) → stretch_over base stretch ≡ set_cells cells (get_or base span.sid []) ∷ [])
  pub inserted : span.source ≡ INSERTED → (base : List Row) → stretch_over base stretch ≡ stretch_rows stretch

-- spans tell of the rows from one position up to another, one after the other
abbrev pub AreSpans : Stack → ℕ → List Span → ℕ → Type 0
AreSpans stack rid [] end = rid ≡ end
AreSpans stack rid (span ∷ spans) end = (span.position ≡ rid) × IsSpan stack span × AreSpans stack (rid + span.rows) spans end

-- spans in C's room tell of a transaction's rows from a position on: of all up to another, where there was room
pub record HandsSpans (txn : Transaction) (from to room count : ℕ) (spans : List Span) : Type 0 where
  pub stack : Stack
  pub image : image_rows stack ≡ rows_of (image_of txn)
  pub end : ℕ
  pub within : count ≤ room
  pub told : AreSpans stack (min from (length (image_of txn))) (take count spans) end
  pub all : count < room → min from (length (image_of txn)) ≤ min to (length (image_of txn)) → end ≡ min to (length (image_of txn))

-- bytes for the columns of a row: 0, that its value is that of the stable row at a SID, whatever the stable rows are; and else, that
-- it is the same over all of them, of rows as wide
pub record TellsOwn (view : RowView) (sid : ℕ) (bytes : List ℕ) : Type 0 where
  pub kept : (base : List Row) → (col : ℕ) → get_or bytes col 1 ≡ 0
      → slice_get (row_over base view) col ≡ slice_get (get_or base sid []) col
  pub own : (base other : List Row) → length (row_over base view) ≡ length (row_over other view) → (col : ℕ) → get_or bytes col 0 ≢ 0
      → slice_get (row_over base view) col ≡ slice_get (row_over other view) col

-- and so of the first row of a stretch
pub record TellsFirst (stretch : Stretch) (sid : ℕ) (bytes : List ℕ) : Type 0 where
  pub kept : (base : List Row) → (row : Row) → slice_get (stretch_over base stretch) 0 ≡ Some row → (col : ℕ) → get_or bytes col 1 ≡ 0
      → slice_get row col ≡ slice_get (get_or base sid []) col
  pub own : (base other : List Row) → (row that : Row) → slice_get (stretch_over base stretch) 0 ≡ Some row
      → slice_get (stretch_over other stretch) 0 ≡ Some that → length row ≡ length that → (col : ℕ) → get_or bytes col 0 ≢ 0
      → slice_get row col ≡ slice_get that col

-- and so of a transaction's row at a position, where there is one
pub record HandsOwn (txn : Transaction) (rid sid : ℕ) (bytes : List ℕ) : Type 0 where
  pub stack : Stack
  pub image : image_rows stack ≡ rows_of (image_of txn)
  pub kept : (base : List Row) → length base ≡ length stack.rows → (row : Row)
      → slice_get (image_rows (stack_over base stack)) rid ≡ Some row → (col : ℕ) → get_or bytes col 1 ≡ 0
      → slice_get row col ≡ slice_get (get_or base sid []) col
  pub own : rid < length (image_of txn) → (base other : List Row) → length base ≡ length stack.rows
      → length other ≡ length stack.rows → (row that : Row) → slice_get (image_rows (stack_over base stack)) rid ≡ Some row
      → slice_get (image_rows (stack_over other stack)) rid ≡ Some that → length row ≡ length that → (col : ℕ)
      → get_or bytes col 0 ≢ 0 → slice_get row col ≡ slice_get that col
