-- A durable session may go to another thread, and what they share may be used from several.
use denote.RattleType.{RattleType}
use denote.Param.Send.{IsSend, IsSync, sendable, view_send}
use denote.Param.SendFields.{as_row_send, as_row_sync, declared_send, declared_sync}
use Rattle.std.proofs.Crossing.{crosses, Vec-send}
use Rattle.std.specs.contracts.alloc.Global as Global
use Rattle.std.specs.contracts.impls.GlobalAllocator.TheImpl as heap
use Rattle.std.specs.contracts.sync.Mutex as Mutex
use Rattle.std.specs.contracts.vec.Vec as Vec
use Rattle.std.specs.declared.sync.ledger.Ledger as ledger
use Rattle.std.below.core.proofs.sync.Sent.{Mutex-sync}
use Rattle.publishing.specs.declared.opening.Opening as opening
use Rattle.logging.specs.declared.device.JournalDevice as device
use Rattle.watermark.specs.declared.cell.WatermarkId as watermark_id
use Rattle.watermark.specs.contracts.watermark.Watermark as Watermark
use Rattle.watermark.specs.contracts.watermark.WatermarkReader as WatermarkReader
use Rattle.watermark.proofs.watermark.Watermark.TheSendSync as watermark
use Rattle.watermark.proofs.watermark.WatermarkReader.TheSendSync as reader
use Rattle.group_commit.specs.declared.history.HistoryPrefix as history
use Rattle.group_commit.specs.declared.history.JournalId as journal_id
use Rattle.group_commit.specs.contracts.group_log.GroupLog as GroupLog
use Rattle.group_commit.proofs.group_log.GroupLog.TheSendSync as group_log
use Rattle.shared.specs.declared.store.ImageStore as store
use Rattle.shared.specs.contracts.locked.Locked as Locked
use Rattle.shared.specs.contracts.session.Session as Session
use Rattle.shared.proofs.Crossing.{locked_send, session_send}
use Rattle.durable_sessions.specs.declared.opening_id.DurableOpening as durable_opening
use Rattle.durable_sessions.specs.contracts.durable_session.DurableSession as DurableSession
use Rattle.durable_sessions.specs.contracts.durable_shared.DurableShared as DurableShared
use Rattle.durable_sessions.specs.contracts.durable_shared.CloseBuffers as CloseBuffers
use Rattle.durable_sessions.specs.contracts.frame_queue.FrameQueue as FrameQueue
use Rattle.durable_sessions.specs.contracts.locked_state.LockedState as LockedState
use Rattle.durable_sessions.specs.contracts.locked_state.LockedState.TheInside as state
use Rattle.durable_sessions.specs.contracts.published_prefix.PublishedPrefix as PublishedPrefix
use Rattle.durable_sessions.specs.contracts.published_prefix.PublishedPrefixHistoryPrefix.TheImpl as payloads_of_prefix
use Rattle.durable_sessions.proofs.waiters.Waiters.TheSendSync as waiters
use Rattle.durable_sessions.proofs.frame_queue.FrameQueue.TheSendSync as queue
use Rattle.durable_sessions.proofs.published_prefix.PublishedPrefix.TheSendSync as prefix

module _ (O : RattleType) (g : opening.Ghosts O.Denot) (h : ledger.Ghosts O.Denot) (l : watermark_id.Ghosts O.Denot) where
  pub durable_session_send : IsSend (DurableSession.the_row O g h l)
  durable_session_send =
      declared_send (DurableSession.the_type O g h l)
      (as_row_send (Session.the_field O g h) (session_send O g h), (as_row_send (WatermarkReader.the_field O l) (reader.the_send O l), tt))

-- an opening is named by a type with these members
module _ (O : RattleType) (x : durable_opening.Ghosts O.Denot) (g : opening.Ghosts O.Denot) (h : ledger.Ghosts O.Denot)
    (j : journal_id.Ghosts O.Denot) (l : watermark_id.Ghosts O.Denot) where
  prefix_send : IsSend (PublishedPrefix.the_row O x g h j l)
  prefix_send = prefix.the_send O x g h j l

  buffers_send : IsSend (CloseBuffers.the_row O x g j l h)
  buffers_send =
      declared_send (CloseBuffers.the_type O x g j l h) (
        search (crosses, sendable) depth 20,
        (
          as_row_send (Vec.the_field (Session.the_row O g h) Global.the_row heap.ghosts)
              (Vec-send (Session.the_row O g h) (session_send O g h)),
          tt,
        ),
      )

  module _ (S : RattleType) (i : store.Ghosts S.Denot) (s : IsSend S) where
    locked_state_send : IsSend (LockedState.the_row O S x g h j l i)
    locked_state_send = view_send _ _ _ _ _ (declared_send (state.the_type O S x g h j l i) (
      as_row_send (Locked.the_field O S g h i) (locked_send O S g h i s),
      (
        as_row_send (PublishedPrefix.the_field O x g h j l) prefix_send,
        (
          as_row_send FrameQueue.the_field queue.the_send,
          (as_row_send (WatermarkReader.the_field O l) (reader.the_send O l), (search sendable depth 20, tt)),
        ),
      ),
    ))

  abbrev payloads : history.Ghosts (PublishedPrefix.the_row O x g h j l).Denot
  payloads = payloads_of_prefix.ghosts O x payloads_of_prefix.no_dict g payloads_of_prefix.no_dict h payloads_of_prefix.no_dict j payloads_of_prefix.no_dict l payloads_of_prefix.no_dict

  module _ (D : RattleType) (d : device.Ghosts D.Denot) (s : IsSend D) where
    abbrev group_log_row : RattleType
    group_log_row = GroupLog.the_row (PublishedPrefix.the_row O x g h j l) D O payloads d j l

    group_log_send : IsSend group_log_row
    group_log_send = group_log.the_send (PublishedPrefix.the_row O x g h j l) D O payloads d j l prefix_send s

  -- for a store and a device that may go to another thread
  module _ (S D : RattleType) (i : store.Ghosts S.Denot) (d : device.Ghosts D.Denot) (s : IsSend S) (t : IsSend D) where
    pub durable_shared_sync : IsSync (DurableShared.the_row O S D x g j l i d h)
    durable_shared_sync = declared_sync (DurableShared.the_type O S D x g j l i d h) (
      as_row_sync (Mutex.the_field (LockedState.the_row O S x g h j l i)) (Mutex-sync (LockedState.the_row O S x g h j l i) (locked_state_send S i s)),
      (
        as_row_sync (Mutex.the_field (group_log_row D d t)) (Mutex-sync (group_log_row D d t) (group_log_send D d t)),
        (
          as_row_sync (Watermark.the_field O l) (watermark.the_sync O l),
          (
            waiters.the_sync,
            (
              search (crosses, sendable) depth 20,
              (as_row_sync (Mutex.the_field (CloseBuffers.the_row O x g j l h)) (Mutex-sync (CloseBuffers.the_row O x g j l h) buffers_send), tt),
            ),
          ),
        ),
      ),
    )
