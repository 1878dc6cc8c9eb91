-- A manager, its history and what a commit prepares may go to another thread.
use denote.Param.Send.{IsSend, IsSync, sendable, view_send, view_sync}
use denote.Param.SendFields.{as_row_send, as_row_sync, declared_send, declared_sync}
use Rattle.std.proofs.Crossing.{crosses, frees}
use Rattle.std.proofs.alloc.Global.TheSendSync as global
use Rattle.std.specs.contracts.alloc.Global as Global
use Rattle.std.specs.contracts.impls.GlobalAllocator.TheImpl as heap
use Rattle.std.specs.contracts.collections.LinkedList as LinkedList
use Rattle.std.below.core.proofs.option.Option.TheSendSync as option
use Rattle.std.below.std_collections.proofs.linked_list.LinkedList.TheSendSync as linked
use Rattle.circular_buffer.specs.contracts.heap.HeapCircularBuffer as Ring
use Rattle.circular_buffer.proofs.heap.HeapCircularBuffer.TheSendSync as ring
use Rattle.model.specs.contracts.record.Record as Record
use Rattle.model.proofs.record.Record.TheSendSync as record_of
use Rattle.delta.specs.contracts.tree.DeltaTree as DeltaTree
use Rattle.txn.specs.contracts.version.Version as Version
use Rattle.txn.proofs.Crossing.{entries_send, version_send, version_sync}
use Rattle.manager.specs.contracts.commit.Grant as Grant
use Rattle.manager.specs.contracts.commit.Grant.TheInside as grant
use Rattle.manager.specs.contracts.commit.Prepared as Prepared
use Rattle.manager.specs.contracts.commit.Prepared.TheInside as prepared
use Rattle.manager.specs.contracts.cut.KeptTrees as KeptTrees
use Rattle.manager.specs.contracts.history.History as History
use Rattle.manager.specs.contracts.history.History.TheInside as history
use Rattle.manager.proofs.history.Rules.TheSendSync as rules
use Rattle.manager.specs.contracts.manager.Manager as Manager
use Rattle.manager.specs.contracts.manager.Manager.TheInside as manager
use Rattle.manager.specs.contracts.past.Past as Past
use Rattle.manager.proofs.past.Past.TheSendSync as past
use Rattle.manager.specs.contracts.pin.Pin as Pin
use Rattle.manager.specs.contracts.pin.Pin.TheInside as pin
use Rattle.manager.specs.contracts.replaced.Replaced as Replaced
use Rattle.manager.specs.contracts.replaced.Replaced.TheInside as replaced

pub history_send : IsSend History.the_row
history_send =
    let a = version_send in
    view_send _ _ _ _ _ (declared_send history.the_type (
      search (crosses, sendable) depth 20,
      (
        search sendable depth 20,
        (
          rules.the_send,
          (
            as_row_send Past.the_field past.the_send,
            (
              search sendable depth 20,
              (
                option.the_send (LinkedList.the_row Record.the_row Global.the_row heap.ghosts)
                    (linked.the_send Record.the_row Global.the_row heap.ghosts record_of.the_send global.the_send frees),
                (search sendable depth 20, tt),
              ),
            ),
          ),
        ),
      ),
    ))

-- the ring of the trees that are kept
pub ring_send : IsSend (Ring.the_row DeltaTree.the_row Global.the_row heap.ghosts)
ring_send = ring.the_send DeltaTree.the_row Global.the_row heap.ghosts entries_send global.the_send frees

pub manager_send : IsSend Manager.the_row
manager_send = view_send _ _ _ _ _ (declared_send manager.the_type (
  as_row_send History.the_field history_send,
  (
    search sendable depth 20,
    (
      as_row_send Version.the_field version_send,
      (as_row_send (Ring.the_field DeltaTree.the_row Global.the_row heap.ghosts) ring_send, (search sendable depth 20, tt)),
    ),
  ),
))

grant_send : IsSend Grant.the_row
grant_send =
    view_send _ _ _ _ _ (declared_send grant.the_type
    (as_row_send DeltaTree.the_field entries_send, (as_row_send Version.the_field version_send, tt)))

pub prepared_send : IsSend Prepared.the_row
prepared_send =
    let a = grant_send in
    view_send _ _ _ _ _ (declared_send prepared.the_type
    (search (crosses, sendable) depth 20, (search (crosses, sendable, as_row_send) depth 30, tt)))

pub replaced_send : IsSend Replaced.the_row
replaced_send =
    let a = entries_send in
    let b = version_send in
    view_send _ _ _ _ _ (declared_send replaced.the_type
    (search (crosses, sendable, as_row_send) depth 30, (search (crosses, sendable, as_row_send) depth 30, tt)))

pub kept_trees_send : IsSend KeptTrees.the_row
kept_trees_send =
    declared_send KeptTrees.the_type (as_row_send (Ring.the_field DeltaTree.the_row Global.the_row heap.ghosts) ring_send, tt)

pub pin_send : IsSend Pin.the_row
pin_send = view_send _ _ _ _ _ (declared_send pin.the_type (as_row_send Version.the_field version_send, (search sendable depth 20, tt)))

-- a version that is kept may be read by several threads
pub pin_sync : IsSync Pin.the_row
pin_sync = view_sync _ _ _ _ _ (declared_sync pin.the_type (as_row_sync Version.the_field version_sync, (search sendable depth 20, tt)))
