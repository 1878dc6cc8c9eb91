use Rattle.std.proofs.Common.{subst, sym, option_map}
use Rattle.databases.specs.Restored.{files_now}
use Rattle.manifest.specs.Manifest.{table_now}
use Rattle.tables.specs.Recovery.{IsLost}
use Rattle.tables.proofs.TableLemmas.{lost-unrestored}
use Rattle.tables.proofs.recovery.restored_table.Goals as goal

pub returns-clause-err : goal.returns-clause-err
returns-clause-err c =
    let text = c.args.text.now in
    let name = option_map (λ n. n.now) c.args.name in
    let files = files_now c.args.files in
    subst (IsLost text name files) (sym c.refusal_of.ensures)
    (lost-unrestored text name files c.in-Ok.meant.head (table_now c.in-Ok.meant.table) c.in-Err-restore_table.fault c.in-Ok.ensures.ok
    c.in-Err-restore_table.ensures.err)
