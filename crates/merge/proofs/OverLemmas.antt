-- Stretches read over other stable rows, level by level.
use Rattle.std.proofs.Common.{◌≡◌, ℕ, ◌≤◌, List, length, arith}
use Rattle.values.specs.declared.row.Row.{Row}
use Rattle.merge.specs.Cursor.{TreeCursor, IsCursor, KeepsNext, moved, rows_left}
use Rattle.merge.specs.Stretches.{PassesOver, stretch_rows}
use Rattle.merge.specs.declared.stretch.Stretch.{Stretch}
use Rattle.std.proofs.lemmas.Grind.{common_steps}

module _ (base : List Row) where
  -- rows that stand as they are
  pub over-kept : (most n : ℕ) (stretch : Stretch) (c : TreeCursor) (rows below left : List Row) → KeepsNext most n c
      → IsCursor (length rows) c → length below ≡ length rows → PassesOver base below stretch left → length (stretch_rows stretch) ≤ n
      → PassesOver base (rows_left c below) stretch (rows_left (moved (length (stretch_rows stretch)) c) left)
  over-kept most n stretch c rows below left h is same p few = grind (arith, common_steps)
