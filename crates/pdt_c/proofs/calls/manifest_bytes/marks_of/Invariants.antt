use Rattle.std.proofs.Common.{◌≡◌, map, take}
use Rattle.pdt_c.specs.Listed.{mark_of}
use Rattle.pdt_c.proofs.calls.manifest_bytes.marks_of.Given as goal

abbrev pub invariant-loop-found : goal.invariant-loop-found
invariant-loop-found l = l.marks.items ≡ map mark_of (take l.found-index l.records)
