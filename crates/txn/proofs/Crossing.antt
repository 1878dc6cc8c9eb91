-- Versions and transactions may go to another thread, and a version may be read by several.
use denote.Param.Send.{IsSend, IsSync, sendable, view_send}
use denote.Param.SendFields.{as_row_send, declared_send}
use Rattle.std.proofs.Crossing.{crosses}
use Rattle.model.proofs.write.Write.TheSendSync as write
use Rattle.stable.proofs.table.StableTable.TheSendSync as stable
use Rattle.merge.proofs.packed.Packed.TheSendSync as packed
use Rattle.counted.proofs.Crossing.{tree_send, tree_sync}
use Rattle.delta.specs.contracts.tree.DeltaTree as DeltaTree
use Rattle.txn.specs.contracts.mark.Mark as Mark
use Rattle.txn.specs.contracts.mark.Mark.TheInside as mark
use Rattle.txn.specs.contracts.transaction.Txn as Txn
use Rattle.txn.specs.contracts.transaction.Txn.TheInside as inside
use Rattle.txn.specs.contracts.version.Version as Version
use Rattle.txn.proofs.slot.RecordSlot.TheSendSync as slot

pub entries_send : IsSend DeltaTree.the_row
entries_send = search (tree_send, sendable, crosses) depth 60

pub entries_sync : IsSync DeltaTree.the_row
entries_sync = search (tree_sync, sendable, crosses) depth 60

pub version_send : IsSend Version.the_row
version_send =
    let a = entries_send in
    let b = entries_sync in let c = stable.the_send in let d = stable.the_sync in
    let e = packed.the_send in let f = packed.the_sync in search (crosses, sendable) depth 40 fits 20000

pub version_sync : IsSync Version.the_row
version_sync =
    let a = entries_send in
    let b = entries_sync in let c = stable.the_send in let d = stable.the_sync in
    let e = packed.the_send in let f = packed.the_sync in search (crosses, sendable) depth 40 fits 20000

pub txn_send : IsSend Txn.the_row
txn_send =
    let a = entries_send in let b = version_send in let c = slot.the_send in let d = write.the_send in
    view_send _ _ _ _ _ (declared_send inside.the_type (
      search (crosses, sendable) depth 20,
      (
        as_row_send Version.the_field b,
        (search (crosses, sendable) depth 20, (as_row_send DeltaTree.the_field a, (search (crosses, sendable) depth 20, (c, tt)))),
      ),
    ))

pub mark_send : IsSend Mark.the_row
mark_send =
    view_send _ _ _ _ _
    (declared_send mark.the_type (search (crosses, sendable) depth 20, (as_row_send DeltaTree.the_field entries_send, tt)))
