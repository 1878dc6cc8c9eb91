-- What waits to be written, and what is staged of a commit.
use Rattle.std.specs.Prelude.{ℕ, List, []}
use Rattle.model.specs.declared.write.CommitReply.{CommitReply}
use Rattle.model.specs.declared.write.CommitReply.TheVariants.{Committed, Conflict, TooOld, Full}
use Rattle.journal.specs.Frame.{frame_bytes}
use Rattle.txn.specs.Txn.{Transaction}
use Rattle.manager.specs.Managed.{Managed}
use Rattle.durable.specs.Spelled.{payload_of}

-- the frames that wait, the one that is staged, and how frames are made
pub record Queued : Type 0 where
  pub waiting : List ℕ
  pub staged : List ℕ
  pub seed : ℕ
  pub table : ℕ

-- the frame that is staged for a reply to a transaction
abbrev pub staged_of : ℕ → ℕ → Managed → Transaction → ℕ → CommitReply → List ℕ
staged_of seed table m txn synced (Committed n) =
    frame_bytes seed (record { number = n; synced = synced; payload = payload_of table m txn })
staged_of seed table m txn synced (Conflict n) = []
staged_of seed table m txn synced (TooOld n) = []
staged_of seed table m txn synced (Full n) = []
