-- What lies under the lock, and what a commit there does.
use Rattle.std.specs.Prelude.{◌≡◌, ◌⊎◌, ℕ, Result, Ok, Err, List, [], ◌∷◌, ◌++◌}
use Rattle.model.specs.Effects.{Effects}
use Rattle.model.specs.declared.write.CommitReply.{CommitReply}
use Rattle.model.specs.declared.write.CommitReply.TheVariants.{Committed, Conflict, TooOld, Full}
use Rattle.manager.specs.Layers.{AreWritten}
use Rattle.manager.specs.Managed.{Managed}
use Rattle.manager.specs.Prepared.{Prepared, IsPrepared}
use Rattle.manager.specs.Replaced.{Released, released_by}
use Rattle.manager.specs.declared.fault.CheckpointFault.{CheckpointFault}
use Rattle.manager.specs.declared.fault.CheckpointFault.TheVariants.{StoreFailed, GenerationsSpent, NoMemory, DeviceFailed}
use Rattle.txn.specs.Txn.{Transaction}
use Rattle.txn.specs.Version.{Lower, LayeredVersion}
use Rattle.publishing.specs.declared.item.Item.{Item}
use Rattle.publishing.specs.Commits.{commit_of}
use Rattle.publishing.specs.Lists.{IsShownAgain, commits_of_item, shown_in}

-- the manager, the published list, and the generation of the store's next image
pub record Stand : Type 0 where
  pub manager : Managed
  pub list : List Item
  pub next : ℕ

-- the list after the reply to a transaction: a commit that is granted is an item more
abbrev pub IsGrown : List Item → List Item → Transaction → CommitReply → Type 0
IsGrown old new txn (Committed n) = (item : Item) × (new ≡ old ++ item ∷ []) × (commits_of_item item ≡ commit_of txn ∷ [])
IsGrown old new txn (Conflict n) = new ≡ old
IsGrown old new txn (TooOld n) = new ≡ old
IsGrown old new txn (Full n) = new ≡ old

-- what is published after the reply to a commit of these effects: a version over the layers that it makes of those before
abbrev pub IsShownAfter : Managed → Lower → Effects → CommitReply → List Item → Type 0
IsShownAfter o layers x (Committed n) list = AreWritten layers x (shown_in o list).layers
IsShownAfter o layers x (Conflict n) list = Unit {0}
IsShownAfter o layers x (TooOld n) list = Unit {0}
IsShownAfter o layers x (Full n) list = Unit {0}

-- what comes out of a commit: all that is let go of where what was prepared for it is installed
abbrev pub IsReleased : Managed → Transaction → Released → Type 0
IsReleased m txn released = (p : Prepared) × IsPrepared m txn p × (released ≡ released_by m txn p)

-- the list after a checkpoint: this version was published before the devices were handed its table
abbrev pub IsShownBefore : List Item → LayeredVersion → Result ℕ CheckpointFault → List Item → Type 0
IsShownBefore old v (Ok generation) new = IsShownAgain old v new
IsShownBefore old v (Err (DeviceFailed i)) new = IsShownAgain old v new
IsShownBefore old v (Err StoreFailed) new = (new ≡ old) ⊎ IsShownAgain old v new
IsShownBefore old v (Err GenerationsSpent) new = (new ≡ old) ⊎ IsShownAgain old v new
IsShownBefore old v (Err NoMemory) new = (new ≡ old) ⊎ IsShownAgain old v new
