-- A session may go to another thread, and what sessions share may be used from several.
use denote.RattleType.{RattleType}
use denote.Builtin.{u64}
use denote.Struct.Field.{row_field}
use denote.Param.Send.{IsSend, IsSync, sendable, view_send}
use denote.Param.SendFields.{as_row_send, as_row_sync, declared_send, declared_sync}
use Rattle.std.proofs.Crossing.{crosses, frees, Vec-sync}
use Rattle.std.proofs.alloc.Global.TheSendSync as global
use Rattle.std.specs.contracts.alloc.Global as Global
use Rattle.std.specs.contracts.impls.GlobalAllocator.TheImpl as heap
use Rattle.std.specs.contracts.option.Option as Option
use Rattle.std.specs.contracts.sync.Mutex as Mutex
use Rattle.std.specs.contracts.sync.ledger.Book as Book
use Rattle.std.specs.contracts.sync.ledger.Share as Share
use Rattle.std.specs.contracts.vec.Vec as Vec
use Rattle.std.specs.declared.sync.ledger.Ledger as ledger
use Rattle.std.below.core.proofs.ledger.Book.TheSendSync as book
use Rattle.std.below.core.proofs.ledger.Share.TheSendSync as share
use Rattle.std.below.core.proofs.option.Option.TheSendSync as option
use Rattle.std.below.core.proofs.sync.Sent.{Mutex-sync}
use Rattle.left_right.specs.contracts.reader.Reader as Reader
use Rattle.left_right.specs.contracts.writer.Writer as Writer
use Rattle.left_right.proofs.reader.Reader.TheSendSync as reader
use Rattle.left_right.proofs.writer.Writer.TheSendSync as writer
use Rattle.txn.proofs.Crossing.{txn_send, version_send, version_sync}
use Rattle.manager.specs.contracts.manager.Manager as Manager
use Rattle.manager.proofs.Crossing.{manager_send}
use Rattle.publishing.specs.declared.opening.Opening as opening
use Rattle.publishing.specs.contracts.published.Published as Published
use Rattle.publishing.specs.contracts.published.PublishedAbsorb.TheImpl as absorbs
use Rattle.publishing.specs.contracts.published.Publishing as Publishing
use Rattle.publishing.specs.contracts.published.PublishingProtocolPublishedView.TheImpl as protocol
use Rattle.publishing.specs.contracts.seen.ItemCounter as ItemCounter
use Rattle.publishing.specs.contracts.seen.SeenList as SeenList
use Rattle.publishing.proofs.seen.ItemCounter.TheSendSync as counter
use Rattle.publishing.proofs.seen.SeenList.TheSendSync as list
use Rattle.shared.specs.declared.store.ImageStore as store
use Rattle.shared.specs.contracts.locked.Locked as Locked
use Rattle.shared.specs.contracts.locked.Locked.TheInside as locked
use Rattle.shared.specs.contracts.publisher.Publisher as Publisher
use Rattle.shared.specs.contracts.publisher.Publisher.TheInside as publisher
use Rattle.shared.specs.contracts.session.Session as Session
use Rattle.shared.specs.contracts.session.Session.TheInside as session
use Rattle.shared.specs.contracts.shared.Shared as Shared

pub published_send : IsSend Published.the_row
published_send = let a = version_send in let b = list.the_send in search (crosses, sendable) depth 40

pub published_sync : IsSync Published.the_row
published_sync = let a = version_sync in let b = list.the_sync in search (crosses, sendable) depth 40

reader_send :
    IsSend (Reader.the_row Published.the_row (Option.the_row SeenList.the_row) Publishing.the_row Global.the_row protocol.ghosts
    heap.ghosts)
reader_send =
    let a =
    published_send in let b = published_sync in let c = list.the_send in let d = list.the_sync in search
    (reader.the_send, crosses, sendable) depth 40

abbrev writer_row : RattleType
writer_row =
    Writer.the_row Published.the_row Published.the_row (Option.the_row SeenList.the_row) Publishing.the_row Global.the_row
    SeenList.the_row absorbs.ghosts protocol.ghosts heap.ghosts

writer_send : IsSend writer_row
writer_send =
    writer.the_send Published.the_row Published.the_row (Option.the_row SeenList.the_row) Publishing.the_row Global.the_row
    SeenList.the_row absorbs.ghosts protocol.ghosts heap.ghosts
    published_send published_send global.the_send published_sync global.the_sync frees

writer_place_send : IsSend (Option.the_row writer_row)
writer_place_send = option.the_send writer_row writer_send

counts_sync : IsSync (Vec.the_row u64 Global.the_row heap.ghosts)
counts_sync = Vec-sync u64 (search sendable)

module _ (O : RattleType) (g : opening.Ghosts O.Denot) (h : ledger.Ghosts O.Denot) where
  share_send : IsSend (Share.the_row O h)
  share_send = search (share.the_send, crosses, sendable) depth 40

  pub session_send : IsSend (Session.the_row O g h)
  session_send =
      let a = txn_send in let b = reader_send in let c = list.the_send in let d = share_send in
      view_send _ _ _ _ _ (declared_send (session.the_type O g h) (
        search (crosses, sendable) depth 20,
        (
          search (crosses, sendable) depth 20,
          (
            search (crosses, sendable, as_row_send) depth 20,
            (
              search (crosses, sendable, as_row_send) depth 20,
              (
                search (crosses, sendable, as_row_send) depth 20,
                (
                  as_row_send SeenList.the_field c,
                  (
                    search (crosses, sendable, as_row_send) depth 20,
                    (search (crosses, sendable) depth 20, (search (crosses, sendable) depth 20, tt)),
                  ),
                ),
              ),
            ),
          ),
        ),
      ))

  publisher_send : IsSend (Publisher.the_row O g h)
  publisher_send = view_send _ _ _ _ _ (declared_send (publisher.the_type O g h) (
    as_row_send (ItemCounter.the_field O g h) (counter.the_send O g h),
    (as_row_send SeenList.the_field list.the_send, (writer_place_send, tt)),
  ))

module _ (O S : RattleType) (g : opening.Ghosts O.Denot) (h : ledger.Ghosts O.Denot) (i : store.Ghosts S.Denot) (s : IsSend S) where
  pub locked_send : IsSend (Locked.the_row O S g h i)
  locked_send = view_send _ _ _ _ _ (declared_send (locked.the_type O S g h i) (
    as_row_send Manager.the_field manager_send,
    (
      as_row_send (row_field S) s,
      (
        as_row_send (Book.the_field O h) (book.the_send O h),
        (
          as_row_send (Share.the_field O h) (share.the_send O h),
          (as_row_send (Publisher.the_field O g h) (publisher_send O g h), tt),
        ),
      ),
    ),
  ))

  -- for a store that may go to another thread
  pub shared_sync : IsSync (Shared.the_row O S g i h)
  shared_sync = declared_sync (Shared.the_type O S g i h) (
    as_row_sync (Mutex.the_field (Locked.the_row O S g h i)) (Mutex-sync (Locked.the_row O S g h i) locked_send),
    (as_row_sync (Vec.the_field u64 Global.the_row heap.ghosts) counts_sync, tt),
  )
