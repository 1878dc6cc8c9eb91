use Rattle.std.proofs.Common.{◌≡◌, ◌*◌, ◌≤◌}
use Rattle.layers.specs.Shifts.{moved_between, shifted_by, shifted_entries}
use Rattle.layers.proofs.blocks.move_rest.Given as goal

-- those before the block have moved
abbrev pub invariant-loop-block : goal.invariant-loop-block
invariant-loop-block l = record {
  past : l.index ≤ l.block * 256;
  moved :
      shifted_entries l.shifts l.entries
      ≡ moved_between l.index (l.block * 256) (shifted_by l.shift) (shifted_entries l.fn.shifts l.fn.entries);
}
