use Rattle.std.proofs.Common.{length, ◌-◌, ◌<◌, ◌^◌}
use Rattle.std.specs.List.{All}
use Rattle.layers.specs.Over.{AreAligned}
use Rattle.layers.specs.Shifts.{shifted_entries}
use Rattle.layers.proofs.ListLemmas.{IsMoved}
use Rattle.layers.proofs.list.move_past.Given as goal

abbrev pub invariant-loop-index : goal.invariant-loop-index
invariant-loop-index l = record {
  moved :
      (w : AreAligned (record { key_cols = l.fn.other.key_cols; entries = shifted_entries l.fn.shifts l.fn.entries }) l.fn.other)
      → IsMoved l.rule (record { key_cols = l.fn.other.key_cols; entries = shifted_entries l.fn.shifts l.fn.entries }) l.fn.other w
      (shifted_entries l.shifts l.entries) l.cursor l.index;
  placed : All (λ e. e.sid < 2 ^ 64) (shifted_entries l.shifts l.entries);
}

abbrev pub decreases-loop-index : goal.decreases-loop-index
decreases-loop-index l = length l.initial.entries - l.index
