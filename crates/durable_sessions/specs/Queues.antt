-- What is under the lock beside the manager, and what a commit is replied.
use Rattle.std.specs.Prelude.{◌≡◌, ℕ, ◌≤◌, List, []}
use Rattle.model.specs.declared.write.CommitReply.{CommitReply}
use Rattle.model.specs.declared.write.CommitReply.TheVariants.{Committed, Conflict, TooOld, Full}
use Rattle.manager.specs.Managed.{Managed}
use Rattle.publishing.specs.declared.item.Item.{Item}
use Rattle.publishing.specs.Lists.{IsShownAgain}
use Rattle.txn.specs.Version.{LayeredVersion}
use Rattle.group_commit.specs.Batch.{IsBatch}
use Rattle.shared.specs.Sessions.{Seat, WasReplied}
use Rattle.durable_sessions.specs.Payloads.{IsLoggable, payloads_in}
use Rattle.durable_sessions.specs.Staged.{Queued}

-- what waits is the frames of the commits that were published since the last batch was taken
pub record IsQueuedFor (o : Managed) (base seed table : ℕ) (from list : List Item) (q : Queued) : Type 0 where
  pub none : q.staged ≡ []
  pub seed_is : q.seed ≡ seed
  pub table_is : q.table ≡ table
  pub base_is : base ≡ o.start.base
  pub spelt : IsLoggable o table list
  pub waiting : IsBatch seed base (payloads_in o table from) (payloads_in o table list) q.waiting

-- a commit that is granted has a number that isn't above the watermark
abbrev pub IsDurable : CommitReply → ℕ → Type 0
IsDurable (Committed n) safe = n ≤ safe
IsDurable (Conflict n) safe = Unit {0}
IsDurable (TooOld n) safe = Unit {0}
IsDurable (Full n) safe = Unit {0}

-- a session's transaction was decided as committed, at its number in the one history
abbrev pub WasCommitted : Managed → Seat → Seat → Type 0
WasCommitted o before after = (n : ℕ) × WasReplied o before after (Committed n)

-- the list ends in a version of the same table: that of a fold, or of an image
pub record EndsInTheSameTable (list : List Item) : Type 0 where
  pub before : List Item
  pub version : LayeredVersion
  pub again : IsShownAgain before version list
