-- What C holds of a handle may go to another thread: what stands behind it may.
use mir.Raw.{raw}
use base.Shift.{Keyless}
use denote.RattleType.{RattleType}
use denote.Memory.{lone}
use denote.RawPtr.{Ptr}
use denote.Struct.Struct.{exits_of}
use denote.Struct.Owning.{shape, fields, to}
use denote.Param.Send.{IsSend, AllSend, owning_send, struct_send, sendable, view_send}
use denote.Param.SendFields.{as_row_send, declared_send}
use Rattle.std_alloc.proofs.SendSync.{quiet, lies}
use Rattle.std.proofs.Crossing.{crosses, frees, Vec-send}
use Rattle.std.specs.contracts.alloc.Global as Global
use Rattle.std.specs.contracts.impls.GlobalAllocator.TheImpl as heap
use Rattle.std.specs.contracts.vec.Vec as Vec
use Rattle.std.specs.declared.option.Option.{Option}
use Rattle.std.specs.declared.option.Option.TheVariants.{None, Some}
use Rattle.counted.specs.contracts.entry.SharedEntry as SharedEntry
use Rattle.delta.specs.contracts.tree.DeltaTree as DeltaTree
use Rattle.stable.proofs.table.StableTable.TheSendSync as stable
use Rattle.txn.specs.contracts.mark.Mark as Mark
use Rattle.txn.specs.contracts.transaction.Txn as Txn
use Rattle.txn.proofs.Crossing.{entries_send, mark_send, txn_send}
use Rattle.manager.specs.contracts.commit.Prepared as Prepared
use Rattle.manager.specs.contracts.cut.KeptTrees as KeptTrees
use Rattle.manager.specs.contracts.manager.Manager as Manager
use Rattle.manager.specs.contracts.pin.Pin as Pin
use Rattle.manager.specs.contracts.replaced.Replaced as Replaced
use Rattle.manager.proofs.Crossing.{kept_trees_send, manager_send, pin_send, prepared_send, replaced_send}
use Rattle.pdt_c.specs.Held.{owns_at}
use Rattle.pdt_c.specs.contracts.handles.decision.Decision as Decision
use Rattle.pdt_c.specs.contracts.handles.ended.Ended as Ended
use Rattle.pdt_c.specs.contracts.handles.image.Columns as Columns
use Rattle.pdt_c.specs.contracts.handles.image.Image as Image
use Rattle.pdt_c.specs.contracts.handles.layer.Layer as Layer
use Rattle.pdt_c.specs.contracts.handles.layer.LayerEntries as LayerEntries
use Rattle.pdt_c.specs.contracts.handles.layer.LayerEntries.TheInside as layer_entries
use Rattle.pdt_c.specs.contracts.handles.next_table.MadeTable as MadeTable
use Rattle.pdt_c.specs.contracts.handles.next_table.MadeTable.TheInside as made_table
use Rattle.pdt_c.specs.contracts.handles.next_table.NextTable as NextTable
use Rattle.pdt_c.specs.contracts.handles.pin.PinnedTable as PinnedTable
use Rattle.pdt_c.specs.contracts.handles.store.Store as Store
use Rattle.pdt_c.specs.contracts.handles.transaction.OpenTxn as OpenTxn
use Rattle.pdt_c.specs.contracts.handles.transaction.OpenTxn.TheInside as open_txn
use Rattle.pdt_c.specs.contracts.handles.transaction.Transaction as Transaction
use Rattle.pdt_c.specs.contracts.handles.trees.Trees as Trees

-- what stands behind a handle names no thread
held_keyless : (R : RattleType) → IsSend R → (a : Global.the_row.Denot) (p : Ptr) (v : Option R.Denot)
    → Keyless (owns_at (heap.ghosts.dealloc_token a) R p v)
held_keyless R s a p None = tt
held_keyless R s a p (Some x) = (lies R s p x, frees.frees a (raw (lone R.mir)) p)

made_table_send : IsSend MadeTable.the_row
made_table_send =
    let c = stable.the_send in let d = stable.the_sync in
    view_send _ _ _ _ _ (declared_send made_table.the_type (search (crosses, sendable, as_row_send) depth 30, tt))

columns_send : IsSend Columns.the_row
columns_send = search (crosses, sendable) depth 40

open_txn_send : IsSend OpenTxn.the_row
open_txn_send =
    view_send _ _ _ _ _ (declared_send open_txn.the_type (
      as_row_send Txn.the_field txn_send,
      (
        as_row_send (Vec.the_field Mark.the_row Global.the_row heap.ghosts) (Vec-send Mark.the_row mark_send),
        (as_row_send Replaced.the_field replaced_send, tt),
      ),
    ))

entry_send : IsSend SharedEntry.the_row
entry_send = search (sendable, crosses) depth 60 fits 20000

layer_entries_send : IsSend LayerEntries.the_row
layer_entries_send =
    view_send _ _ _ _ _ (declared_send layer_entries.the_type (
      as_row_send DeltaTree.the_field entries_send,
      (as_row_send (Vec.the_field SharedEntry.the_row Global.the_row heap.ghosts) (Vec-send SharedEntry.the_row entry_send), tt),
    ))

-- ---- the handles

pub store_send : IsSend Store.the_row
store_send =
    let all : AllSend (fields Store.the_type) = (search sendable, (search (crosses, sendable) depth 20, tt)) in
    owning_send Store.the_type all (λ d. held_keyless Manager.the_row manager_send d.alloc d.at d.value)
    (λ k. quiet (to Store.the_type) (exits_of k (fields Store.the_type)) ((struct_send (shape Store.the_type) all).leaving k))

pub pinned_table_send : IsSend PinnedTable.the_row
pinned_table_send =
    let all : AllSend (fields PinnedTable.the_type) = (search sendable, (search (crosses, sendable) depth 20, tt)) in
    owning_send PinnedTable.the_type all (λ d. held_keyless Pin.the_row pin_send d.alloc d.at d.value)
    (λ k. quiet (to PinnedTable.the_type) (exits_of k (fields PinnedTable.the_type)) ((struct_send (shape PinnedTable.the_type) all).leaving k))

pub trees_send : IsSend Trees.the_row
trees_send =
    let all : AllSend (fields Trees.the_type) = (search sendable, (search (crosses, sendable) depth 20, tt)) in
    owning_send Trees.the_type all (λ d. held_keyless KeptTrees.the_row kept_trees_send d.alloc d.at d.value)
    (λ k. quiet (to Trees.the_type) (exits_of k (fields Trees.the_type)) ((struct_send (shape Trees.the_type) all).leaving k))

pub decision_send : IsSend Decision.the_row
decision_send =
    let all : AllSend (fields Decision.the_type) = (search sendable, (search (crosses, sendable) depth 20, tt)) in
    owning_send Decision.the_type all (λ d. held_keyless Prepared.the_row prepared_send d.alloc d.at d.value)
    (λ k. quiet (to Decision.the_type) (exits_of k (fields Decision.the_type)) ((struct_send (shape Decision.the_type) all).leaving k))

pub next_table_send : IsSend NextTable.the_row
next_table_send =
    let all : AllSend (fields NextTable.the_type) = (search sendable, (search (crosses, sendable) depth 20, tt)) in
    owning_send NextTable.the_type all (λ d. held_keyless MadeTable.the_row made_table_send d.alloc d.at d.value)
    (λ k. quiet (to NextTable.the_type) (exits_of k (fields NextTable.the_type)) ((struct_send (shape NextTable.the_type) all).leaving k))

pub image_send : IsSend Image.the_row
image_send =
    let all : AllSend (fields Image.the_type) = (search sendable, (search (crosses, sendable) depth 20, tt)) in
    owning_send Image.the_type all (λ d. held_keyless Columns.the_row columns_send d.alloc d.at d.value)
    (λ k. quiet (to Image.the_type) (exits_of k (fields Image.the_type)) ((struct_send (shape Image.the_type) all).leaving k))

pub transaction_send : IsSend Transaction.the_row
transaction_send =
    let all : AllSend (fields Transaction.the_type) = (search sendable, (search (crosses, sendable) depth 20, tt)) in
    owning_send Transaction.the_type all (λ d. held_keyless OpenTxn.the_row open_txn_send d.alloc d.at d.value)
    (λ k. quiet (to Transaction.the_type) (exits_of k (fields Transaction.the_type)) ((struct_send (shape Transaction.the_type) all).leaving k))

pub ended_send : IsSend Ended.the_row
ended_send =
    let all : AllSend (fields Ended.the_type) = (search sendable, (search (crosses, sendable) depth 20, tt)) in
    owning_send Ended.the_type all (λ d. held_keyless OpenTxn.the_row open_txn_send d.alloc d.at d.value)
    (λ k. quiet (to Ended.the_type) (exits_of k (fields Ended.the_type)) ((struct_send (shape Ended.the_type) all).leaving k))

pub layer_send : IsSend Layer.the_row
layer_send =
    let all : AllSend (fields Layer.the_type) = (search sendable, (search (crosses, sendable) depth 20, tt)) in
    owning_send Layer.the_type all (λ d. held_keyless LayerEntries.the_row layer_entries_send d.alloc d.at d.value)
    (λ k. quiet (to Layer.the_type) (exits_of k (fields Layer.the_type)) ((struct_send (shape Layer.the_type) all).leaving k))
