-- A checkpoint's table is the newest one.
use Rattle.std.proofs.Common.{◌≡◌}
use Rattle.std.specs.Bool.{passes}
use Rattle.model.specs.Table.{IsTable, table_of, rows_of, is_keyed_table}
use Rattle.model.proofs.CallerLemmas.{table_of-rows_of}
use Rattle.txn.specs.Version.{version_at}
use Rattle.manager.specs.Managed.{Managed, newest_number, newest_stable, newest_table, newest_version}

-- the version of the newest rows alone is the newest one
pub version_at-newest : (m : Managed) → IsTable m.schema (newest_table m)
    → version_at (newest_stable m) (newest_number m) ≡ newest_version m
version_at-newest m h =
    let k = m.schema.key_cols in
    let t = newest_table m in
    let table : table_of k (rows_of t) ≡ t = table_of-rows_of k t (passes (is_keyed_table k t) h.keyed) in
    λ i. record { schema = m.schema; table = table i; number = newest_number m }
