use Rattle.std.proofs.Common.{◌≡◌, map, take}
use Rattle.manifest.specs.Manifest.{table_now}
use Rattle.pdt_c.specs.Listed.{listed_now}
use Rattle.pdt_c.proofs.calls.manifest_bytes.entries_of.Given as goal

abbrev pub invariant-loop-table : goal.invariant-loop-table
invariant-loop-table l = map table_now l.entries.items ≡ map listed_now (take l.table-index l.tables)
