-- What is left under the layers that are there.
use Rattle.std.specs.Prelude.{◌≡◌, ◌≤◌, List, length, drop}
use Rattle.values.specs.declared.row.Row.{Row}
use Rattle.values.specs.declared.limits.TheConstants.{MAX_ROWS}
use Rattle.merge.specs.Cursor.{rows_left, IsCursor}
use Rattle.merge.specs.declared.view.Layer.TheVariants.{Read, Write, Trans}
use Rattle.merge.specs.declared.level.StableRows.{StableRows}
use Rattle.merge.specs.declared.level.Level.{Level}
use Rattle.merge.specs.declared.image.Image.{Image}
use Rattle.merge.specs.declared.image.Image.TheVariants.{Committed, Own}

abbrev pub stable_left : StableRows → List Row
stable_left r = drop r.sid r.table.now.rows

abbrev pub read_left : Level StableRows → List Row
read_left l = rows_left l.cursor (stable_left l.below)

abbrev pub write_left : Level (Level StableRows) → List Row
write_left l = rows_left l.cursor (read_left l.below)

-- under a transaction's tree too, where there is one
abbrev pub image_left : Image → List Row
image_left (Committed l) = write_left l
image_left (Own l) = rows_left l.cursor (write_left l.below)

-- ---- the same, were these the stable rows

abbrev pub read_over : List Row → Level StableRows → List Row
read_over base l = rows_left l.cursor (drop l.below.sid base)

abbrev pub write_over : List Row → Level (Level StableRows) → List Row
write_over base l = rows_left l.cursor (read_over base l.below)

abbrev pub image_over : List Row → Image → List Row
image_over base (Committed l) = write_over base l
image_over base (Own l) = rows_left l.cursor (write_over base l.below)

-- as many stable rows, so that as many are left at each level
abbrev pub AreAlikeLower : List Row → Level (Level StableRows) → Type 0
AreAlikeLower base l =
    ((length base ≡ length l.below.below.table.now.rows) × (length (drop l.below.below.sid base) ≡ length (stable_left l.below.below)))
    × (length (read_over base l.below) ≡ length (read_left l.below))

abbrev pub AreAlike : List Row → Image → Type 0
AreAlike base (Committed l) = AreAlikeLower base l
AreAlike base (Own l) = AreAlikeLower base l.below × (length (write_over base l.below) ≡ length (write_left l.below))

-- ---- cursors

-- the cursors of the two lower layers stand over what is left below them
pub record AreLowerCursors (l : Level (Level StableRows)) : Type 0 where
  pub few : length l.below.below.table.now.rows ≤ MAX_ROWS
  pub read : IsCursor (length (stable_left l.below.below)) l.below.cursor
  pub write : IsCursor (length (read_left l.below)) l.cursor
  pub read_layer : l.below.layer ≡ Read
  pub write_layer : l.layer ≡ Write

-- and that of a transaction's tree over what is left below it
pub record AreOwnCursors (l : Level (Level (Level StableRows))) : Type 0 where
  pub lower : AreLowerCursors l.below
  pub trans : IsCursor (length (write_left l.below)) l.cursor
  pub trans_layer : l.layer ≡ Trans

-- the cursors stand over what is left below them, layer by layer
abbrev pub AreCursors : Image → Type 0
AreCursors (Committed l) = AreLowerCursors l
AreCursors (Own l) = AreOwnCursors l
