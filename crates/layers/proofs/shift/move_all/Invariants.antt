use Rattle.std.proofs.Common.{◌≡◌, map, take, drop}
use Rattle.layers.specs.Shifts.{shifted_by}
use Rattle.layers.proofs.shift.move_all.Given as goal

-- so many have moved
abbrev pub invariant-loop-entry : goal.invariant-loop-entry
invariant-loop-entry l = record {
  moved : take l.entry-index l.entries ≡ map (shifted_by l.shift) (take l.entry-index l.fn.entries);
  left : drop l.entry-index l.entries ≡ drop l.entry-index l.fn.entries;
}
