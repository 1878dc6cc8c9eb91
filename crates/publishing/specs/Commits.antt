-- What a commit is in a published list, and the commits that a manager's history has.
use Rattle.std.specs.Prelude.{ℕ, List, [], ◌∷◌, ◌++◌, map}
use Rattle.values.specs.Shape.{Columns}
use Rattle.model.specs.declared.write.CommitReply.{CommitReply}
use Rattle.model.specs.declared.write.CommitReply.TheVariants.{Committed, Conflict, TooOld, Full}
use Rattle.model.specs.Effects.{Effects}
use Rattle.model.specs.History.{Start, Record, effects_of_record, commits_after}
use Rattle.txn.specs.Txn.{Transaction, effects_of}
use Rattle.manager.specs.Managed.{Managed}

-- whose commit it is, at which number it began, and what it does to the table
pub record Commit : Type 0 where
  pub client : ℕ
  pub begin : ℕ
  pub effects : Effects

-- the commit of a transaction
abbrev pub commit_of : Transaction → Commit
commit_of txn = record { client = txn.client; begin = txn.begin; effects = effects_of txn }

-- what commits do to the table, in order
abbrev pub all_effects : List Commit → List Effects
all_effects commits = map (λ c. c.effects) commits

-- what a reply adds to the commits
abbrev pub granted_by : Commit → CommitReply → List Commit
granted_by c (Committed n) = c ∷ []
granted_by c (Conflict n) = []
granted_by c (TooOld n) = []
granted_by c (Full n) = []

module _ (schema : Columns) (start : Start) where
  -- the commit that a record asked for, after those before it
  abbrev pub asked_by : List Effects → Record → Commit
  asked_by before r = record { client = r.client; begin = r.begin; effects = effects_of_record schema start before r }

  -- the commits of records, after those before them
  abbrev pub commits_from_records : List Effects → List Record → List Commit
  commits_from_records before [] = []
  commits_from_records before (r ∷ history) =
      granted_by (asked_by before r) r.reply ++ commits_from_records (commits_after schema start before r) history

-- the commits in a manager's history
abbrev pub commits_made : Managed → List Commit
commits_made m = commits_from_records m.schema m.start [] m.history
