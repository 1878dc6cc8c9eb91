use Rattle.std.proofs.Common.{◌≡◌, ◌++◌, take}
use Rattle.std.specs.List.{flat_map, AllByRecursion}
use Rattle.manifest.specs.Manifest.{IsMark, mark_text}
use Rattle.manifest.proofs.writing.put_marks.Given as goal

abbrev pub invariant-loop-mark : goal.invariant-loop-mark
invariant-loop-mark l = record {
  spelt : l.out.items ≡ l.fn.out.items ++ flat_map mark_text (take l.mark-index l.marks);
  lawful : AllByRecursion IsMark (take l.mark-index l.marks);
}
