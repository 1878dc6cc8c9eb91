use Rattle.std.proofs.Common.{◌≡◌, length, ap, ◌∙◌, arith}
use Rattle.txn.specs.Version.{TableVersion, lower_table, table_version}
use Rattle.manager.specs.Managed.{Managed, managed_of, newest_table}
use Rattle.manager.proofs.HistoryLemmas.{newest_within}
use Rattle.manager.proofs.manager.Manager.pin.Goals as goal

pub invariant_of-result : goal.invariant_of-result
invariant_of-result c =
    let i = c.self.inside in
    let h = c.self.invariant.0 in
    let m = managed_of i.history i.made i.newest.layers in
    let within = newest_within m h.lawful in
    let limited = h.lawful.limited in
    let same : length (lower_table c.in_ok-copy.field-0.layers) ≡ length (newest_table m) =
    ap (λ (v : TableVersion). length v.table) (ap table_version c.in_ok-copy.ensures ∙ h.newest_is) in
    let limit = c.row_limit.ensures in
    let seen = ap (λ (v : Managed). v.start.limit) c.self.view_is in
    (omega (arith, within, same, limit, seen), omega (arith, limited, limit, seen))
