-- Stretches of a range of the image, read over any stable rows.
use Rattle.std.specs.Prelude.{◌≡◌, ℕ, ◌+◌, ◌-◌, ◌<◌, ◌≤◌, Option, MatchOption, List, ◌++◌, length, take, drop}
use Rattle.values.specs.declared.row.Row.{Row}
use Rattle.merge.specs.Image.{Stack, image_rows, stack_over}
use Rattle.merge.specs.Left.{AreAlike, AreCursors, image_left, image_over}
use Rattle.merge.specs.Stretches.{IsStretch, stretch_over, stretch_rows}
use Rattle.merge.specs.declared.image.Image.{Image}
use Rattle.merge.specs.declared.stretch.Stretch.{Stretch}

-- so many rows of the image of layers, from a position on
pub record Placed : Type 0 where
  pub stack : Stack
  pub rid : ℕ
  pub left : ℕ

-- those rows, were these the stable rows
abbrev pub placed_rows : List Row → Placed → List Row
placed_rows base p = take p.left (drop p.rid (image_rows (stack_over base p.stack)))

-- past so many of them
abbrev pub placed_past : ℕ → Placed → Placed
placed_past n p = record p { rid = p.rid + n; left = p.left - n }

-- the next rows are those of the stretch: over the stable rows, and over any others that are as many
pub record PassesPlaced (old : Placed) (stretch : Stretch) (new : Placed) : Type 0 where
  pub is : IsStretch 3 stretch
  pub some : 0 < length (stretch_rows stretch)
  pub few : length (stretch_rows stretch) ≤ old.left
  pub own : stretch_over old.stack.rows stretch ≡ stretch_rows stretch
  pub over : (base : List Row) → length base ≡ length old.stack.rows
      → placed_rows base old ≡ stretch_over base stretch ++ placed_rows base new
  pub moved : new ≡ placed_past (length (stretch_rows stretch)) old

-- what a call that hands out the next stretch gives: one while rows are left
abbrev pub YieldsPlaced : Placed → Option Stretch → Placed → Type 0
YieldsPlaced old result new = MatchOption result ((old.left ≡ 0) × (new ≡ old)) (λ stretch. PassesPlaced old stretch new)

-- what is left of an image stands at a position of the image of layers, over any stable rows that are as many
pub record IsPlaced (stack : Stack) (rid : ℕ) (image : Image) : Type 0 where
  pub cursors : AreCursors image
  pub rows : image_left image ≡ drop rid (image_rows stack)
  pub alike : (base : List Row) → length base ≡ length stack.rows → AreAlike base image
  pub over : (base : List Row) → length base ≡ length stack.rows → image_over base image ≡ drop rid (image_rows (stack_over base stack))
