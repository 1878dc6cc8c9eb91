use Rattle.std.proofs.Common.{◌≡◌, ◌+◌, take}
use Rattle.segments.specs.Ends.{frames_len}
use Rattle.segments.proofs.ends.left_behind.Given as goal

abbrev pub invariant-loop-file : goal.invariant-loop-file
invariant-loop-file l = l.left + frames_len (take l.file-index l.files) ≡ l.bytes
