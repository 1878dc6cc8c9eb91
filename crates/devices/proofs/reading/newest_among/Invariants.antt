use Rattle.std.proofs.Common.{◌≡◌, ◌≤◌, None, length, map, take}
use Rattle.devices.specs.Stored.{newest_of}
use Rattle.devices.proofs.reading.newest_among.Given as goal

-- no later block ends an image
abbrev pub invariant-loop-end : goal.invariant-loop-end
invariant-loop-end l = record {
  left : l.end ≤ length l.parts;
  found : newest_of (map (λ p. p.items) l.others) None (take l.end l.parts) ≡ newest_of (map (λ p. p.items) l.others) None l.parts;
}

abbrev pub decreases-loop-end : goal.decreases-loop-end
decreases-loop-end l = l.end
