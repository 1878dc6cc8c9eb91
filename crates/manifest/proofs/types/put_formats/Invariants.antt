use Rattle.std.proofs.Common.{◌≡◌, ◌++◌, take}
use Rattle.std.specs.List.{AllByRecursion}
use Rattle.manifest.specs.Types.{IsFormat, formats_now, types_lines}
use Rattle.manifest.proofs.types.put_formats.Given as goal

abbrev pub invariant-loop-column : goal.invariant-loop-column
invariant-loop-column l = record {
  spelt : l.out.items ≡ l.fn.out.items ++ types_lines 0 (formats_now (take l.column l.formats));
  lawful : AllByRecursion IsFormat (formats_now (take l.column l.formats));
}
