use Rattle.std.proofs.Common.{◌≤◌, ◌*◌}
use Rattle.values.specs.declared.limits.TheConstants.{MAX_TEXT_BYTES}
use Rattle.blocks.proofs.gathering.bytes_at.Given as goal

abbrev pub invariant-loop-place : goal.invariant-loop-place
invariant-loop-place l = l.bytes ≤ MAX_TEXT_BYTES * l.place-index
