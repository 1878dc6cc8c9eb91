use Rattle.std.proofs.Common.{◌≤◌, ◌*◌}
use Rattle.values.specs.declared.limits.TheConstants.{MAX_TEXT_BYTES}
use Rattle.blocks.proofs.block.text_bytes.Given as goal

abbrev pub invariant-loop-value : goal.invariant-loop-value
invariant-loop-value l = l.bytes ≤ MAX_TEXT_BYTES * l.value-index
