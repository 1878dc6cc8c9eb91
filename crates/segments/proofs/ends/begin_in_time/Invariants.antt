use Rattle.std.proofs.Common.{◌≡◌, drop}
use Rattle.segments.specs.Ends.{begin_in_time}
use Rattle.segments.proofs.ends.begin_in_time.Given as goal

abbrev pub invariant-loop-file : goal.invariant-loop-file
invariant-loop-file l = begin_in_time l.newest (drop l.file-index l.files) ≡ begin_in_time l.newest l.files
