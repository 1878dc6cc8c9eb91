use Rattle.std.proofs.Common.{◌≡◌, ◌++◌, map, take}
use Rattle.std.specs.List.{flat_map, AllByRecursion}
use Rattle.manifest.specs.Manifest.{IsTable, table_now, table_text}
use Rattle.manifest.proofs.writing.put_tables.Given as goal

abbrev pub invariant-loop-table : goal.invariant-loop-table
invariant-loop-table l = record {
  spelt : l.out.items ≡ l.fn.out.items ++ flat_map table_text (map table_now (take l.table-index l.tables));
  lawful : AllByRecursion IsTable (map table_now (take l.table-index l.tables));
}
