-- What a journal has of a history: the trees of the commits since it began.
use Rattle.std.specs.Prelude.{◌≡◌, ℕ, ◌+◌, List, [], ◌∷◌, ◌++◌, length, map}
use Rattle.model.specs.declared.write.CommitReply.{CommitReply}
use Rattle.model.specs.declared.write.CommitReply.TheVariants.{Committed, Conflict, TooOld, Full}
use Rattle.model.specs.Effects.{Effects}
use Rattle.model.specs.History.{table_with_all, commits_with}
use Rattle.model.specs.Table.{Table}
use Rattle.txn.specs.Txn.{Transaction, effects_of}
use Rattle.manager.specs.Managed.{newest_number, newest_table}
use Rattle.codec.specs.Reading.{decoded}
use Rattle.journal.specs.Frame.{Logged, journal_bytes}
use Rattle.replay.specs.Recovered.{Logs}
use Rattle.replay.specs.Replayed.{AreSaid}
use Rattle.durable.specs.Durable.{Durable, logged_of}

-- a journal since it began: the table then and its number, the bytes before the first frame, the commits, and their frames
pub record Journal : Type 0 where
  pub table : Table
  pub base : ℕ
  pub front : List ℕ
  pub commits : List Effects
  pub logged : List Logged

-- the frames after a reply to a transaction
abbrev pub logged_with : Durable → Transaction → List Logged → CommitReply → List Logged
logged_with d txn logged (Committed n) = logged ++ logged_of d txn n ∷ []
logged_with d txn logged (Conflict n) = logged
logged_with d txn logged (TooOld n) = logged
logged_with d txn logged (Full n) = logged

-- the journal after a reply to a transaction
abbrev pub journal_with : Durable → Transaction → CommitReply → Journal → Journal
journal_with d txn reply j =
    record j { commits = commits_with j.commits (effects_of txn) reply; logged = logged_with d txn j.logged reply }

-- a durable manager has logged these commits: they lead to its newest table, and their frames, whose payloads read as their entries,
-- are what its log was handed
pub record IsJournaled (d : Durable) (j : Journal) : Type 0 where
  pub logs : Logs (decoded d.manager.schema d.table) d.manager.schema j.base j.table j.commits j.logged
  pub newest : newest_table d.manager ≡ table_with_all j.table j.commits
  pub number : newest_number d.manager ≡ j.base + length j.commits
  pub said : AreSaid d.manager.schema d.table j.table j.commits (map (λ l. l.payload) j.logged)
  pub appended : d.log.device.appended ≡ j.front ++ journal_bytes d.log.seed j.logged
