use Rattle.std.proofs.Common.{◌≡◌, ◌≤◌, ◌-◌, drop, map, length}
use Rattle.manifest.specs.Manifest.{table_now}
use Rattle.segments.specs.Naming.{place_from}
use Rattle.segments.proofs.naming.place_of_name.Given as goal

abbrev pub invariant-loop-at : goal.invariant-loop-at
invariant-loop-at l = record {
  within : l.at ≤ length l.tables;
  same : place_from l.at l.name (map table_now (drop l.at l.tables)) ≡ place_from 0 l.name (map table_now l.tables);
}

abbrev pub decreases-loop-at : goal.decreases-loop-at
decreases-loop-at l = length l.tables - l.at
