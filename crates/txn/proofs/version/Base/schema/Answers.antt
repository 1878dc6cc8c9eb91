use Rattle.std.proofs.Common.{subst}
use Rattle.model.specs.Table.{IsTable}
use Rattle.txn.specs.Version.{Lower, lower_table}
use Rattle.txn.proofs.VersionLemmas.{lower_IsTable}
use Rattle.txn.proofs.version.Base.schema.Goals as goal

pub returns-clause-lawful : goal.returns-clause-lawful
returns-clause-lawful c =
    let inside = c.self.inside in
    let l : Lower = record { stable = inside.stable.value; read = inside.read.value; write = inside.write.value } in
    subst (λ (m : Lower). IsTable m.stable.schema (lower_table m)) c.self.view_is (lower_IsTable l c.self.invariant)
