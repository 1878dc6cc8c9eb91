use Rattle.std.proofs.Common.{◌≡◌, map, take}
use Rattle.manifest.specs.Manifest.{table_now}
use Rattle.pdt_c.specs.Listed.{listed_now}
use Rattle.pdt_c.proofs.handles.listed.listed_tables.Given as goal

abbrev pub invariant-loop-table : goal.invariant-loop-table
invariant-loop-table l = map listed_now l.listed.items ≡ map table_now (take l.table-index l.tables)
