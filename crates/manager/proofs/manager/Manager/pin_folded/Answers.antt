use Rattle.std.proofs.Common.{◌≡◌, length, ap, ◌∙◌, arith}
use Rattle.txn.specs.Version.{TableVersion, lower_table, table_version}
use Rattle.manager.specs.Managed.{newest_table}
use Rattle.manager.proofs.HistoryLemmas.{newest_within}
use Rattle.manager.proofs.manager.Manager.pin_folded.Goals as goal

pub invariant_of-result : goal.invariant_of-result
invariant_of-result c =
    let m = c.args.self.now in
    let lawful = c.history-lawful.ensures.lawful in
    let within = newest_within m lawful in
    let limited = lawful.limited in
    let same : length (lower_table c.in_ok-copy.field-0.layers) ≡ length (newest_table m) =
    ap (λ (v : TableVersion). length v.table)
    (ap table_version (c.in_ok-copy.ensures ∙ c.version.ensures) ∙ c.requires.folded.version_is) in
    let limit = c.row_limit.ensures in
    (omega (arith, within, same, limit), omega (arith, limited, limit))
