-- What a manager stands for: where its history starts, the history, how many records it made, and the layers of its newest version.
use Rattle.std.specs.Prelude.{◌≡◌, ℕ, suc, ◌+◌, ◌-◌, ◌≤◌, ◌^◌, ◌==◌, nat_lt, Bool, ◌||◌, cond, min, Option, Some, None, List, [], ◌∷◌, ◌++◌, length, drop}
use Rattle.values.specs.Shape.{Columns, IsSchema}
use Rattle.values.specs.declared.limits.TheConstants.{MAX_ROWS, MAX_RECENT_COMMITS}
use Rattle.model.specs.declared.write.CommitReply.{CommitReply}
use Rattle.model.specs.declared.clash.ConflictRule.{ConflictRule}
use Rattle.model.specs.Table.{Table, IsTable, rows_of}
use Rattle.model.specs.Effects.{Effects}
use Rattle.model.specs.History.{Start, Record, IsLegal, commits_of, table_after, table_with_all, due_reply}
use Rattle.stable.specs.Stable.{Stable, table_in}
use Rattle.txn.specs.Txn.{Transaction, effects_of}
use Rattle.txn.specs.Version.{Lower, TableVersion, alone}
use Rattle.manager.specs.Layers.{AreLayersAfter, AreMerged}
use Rattle.manager.specs.History.{Recorded, recorded_at, start_at}
use Rattle.manager.specs.declared.fault.OpenFault.{OpenFault}
use Rattle.manager.specs.declared.fault.OpenFault.TheVariants.{BadLimit, TooManyRows}

pub record Managed : Type 0 where
  pub schema : Columns
  pub start : Start
  pub history : List Record
  -- how many records it made, each commit before its opening counted as one
  pub made : ℕ
  -- the layers of its newest version
  pub layers : Lower
  -- whether it keeps its records, or clauses alone see them
  pub keeps : Bool
  -- it has let go of the trees of the commits up to this number: what began below is no longer decided
  pub floor : ℕ

-- the manager of a history that made so many records, over these layers
abbrev pub managed_of : Recorded → ℕ → Lower → Managed
managed_of h made layers = record {
  schema = h.schema;
  start = h.start;
  history = h.records;
  made = made;
  layers = layers;
  keeps = h.keeps;
  floor = h.floor;
}

-- the history of a manager
abbrev pub history_of : Managed → Recorded
history_of m = record { schema = m.schema; start = m.start; records = m.history; keeps = m.keeps; floor = m.floor }

-- the manager of a stable table that has just been opened at a number: its trees have no entries, and each commit before it
-- counts as a record that was made
abbrev pub opened_at : ℕ → Stable → ℕ → ℕ → ConflictRule → Managed
opened_at number s limit recent rule =
    managed_of (recorded_at (record { schema = s.schema; table = table_in s; number = number }) limit recent rule []) number (alone s)

-- at 0
abbrev pub opened : Stable → ℕ → ℕ → ConflictRule → Managed
opened s limit recent rule = opened_at 0 s limit recent rule

-- the effects that were committed since the start, in order
abbrev pub commits_in : Managed → List Effects
commits_in m = commits_of m.schema m.start m.history

-- the table after all of them
abbrev pub newest_table : Managed → Table
newest_table m = table_with_all m.start.table (commits_in m)

-- its rows in key order
abbrev pub newest_stable : Managed → Stable
newest_stable m = record { schema = m.schema; rows = rows_of (newest_table m) }

-- its number
abbrev pub newest_number : Managed → ℕ
newest_number m = m.start.base + length (commits_in m)

abbrev pub newest_version : Managed → TableVersion
newest_version m = record { schema = m.schema; table = newest_table m; number = newest_number m }

-- what each manager keeps: its history is legal
pub record IsManaged (m : Managed) : Type 0 where
  pub lawful : IsSchema m.schema
  pub table : IsTable m.schema m.start.table
  pub within : length m.start.table ≤ m.start.limit
  pub limited : m.start.limit ≤ MAX_ROWS
  pub legal : IsLegal m.schema m.start m.history
  pub counted : m.start.base + length m.history ≤ m.made
  pub few : m.made ≤ 2 ^ 62
  pub based : m.start.base ≤ m.floor
  pub reached : m.floor ≤ newest_number m

-- a transaction is of the manager: it began at one of its numbers, from the base on over the table of that number
pub record IsOwn (m : Managed) (txn : Transaction) : Type 0 where
  pub schema : txn.schema ≡ m.schema
  pub limit : txn.limit ≡ m.start.limit
  pub begun : txn.begin ≤ newest_number m
  pub snapshot : m.start.base ≤ txn.begin → txn.table ≡ table_after m.start (commits_in m) txn.begin

-- whether its commit comes too late
abbrev pub is_too_old : Managed → Transaction → Bool
is_too_old m txn = nat_lt txn.begin m.start.base || nat_lt m.start.recent (newest_number m - txn.begin)

-- the commits since it began
abbrev pub commits_since : Managed → Transaction → List Effects
commits_since m txn = drop (txn.begin - m.start.base) (commits_in m)

-- the reply that is due to its commit
abbrev pub reply_due : Managed → Transaction → CommitReply
reply_due m txn = due_reply m.start (commits_in m) txn.begin (effects_of txn)

-- its record, with the reply to its commit
abbrev pub record_of : Transaction → CommitReply → Record
record_of txn reply = record { client = txn.client; begin = txn.begin; writes = txn.writes; reply = reply }

-- whether a limit is outside its range
abbrev pub is_bad_limit : ℕ → ℕ → Bool
is_bad_limit recent limit = (recent == 0) || nat_lt MAX_RECENT_COMMITS recent || (limit == 0) || nat_lt MAX_ROWS limit

-- why a table isn't opened
abbrev pub fault_of_opening : Stable → ℕ → ℕ → Option OpenFault
fault_of_opening s recent limit =
    cond (is_bad_limit recent limit) (Some BadLimit) (cond (nat_lt limit (length s.rows)) (Some TooManyRows) None)

-- the manager with one record more
abbrev pub with_record : Managed → Record → Managed
with_record m r = record m { history = m.history ++ r ∷ []; made = suc m.made }

-- the manager over other layers
abbrev pub with_layers : Managed → Lower → Managed
with_layers m layers = record m { layers = layers }

-- the manager after a cut: its history starts at the newest version
abbrev pub cut_of : Managed → Managed
cut_of m = record m {
  start = start_at (newest_version m) m.start.limit m.start.recent m.start.rule;
  history = [];
  floor = newest_number m;
}

-- the manager that has let go of the trees of its commits up to a number, or up to the newest one: nothing changes where it has
-- already
abbrev pub cut_to_of : ℕ → Managed → Managed
cut_to_of number m = cond (nat_lt m.floor number) (record m { floor = min number (newest_number m) }) m

-- a transaction that has just begun: at all commits, over the newest table
abbrev pub begun_at : Managed → ℕ → Transaction
begun_at m client = record {
  schema = m.schema;
  limit = m.start.limit;
  client = client;
  begin = newest_number m;
  table = newest_table m;
  writes = [];
}

-- a commit is decided: it gets the reply that is due, its record joins the history, and where it is granted its effects go
-- into the Write-PDT
pub record IsDecided (old : Managed) (txn : Transaction) (reply : CommitReply) (new : Managed) : Type 0 where
  pub due : reply ≡ reply_due old txn
  pub kept : new ≡ with_layers (with_record old (record_of txn reply)) new.layers
  pub layers : AreLayersAfter old.layers (effects_of txn) reply new.layers

-- a fold: the Write-PDT has gone into the Read-PDT, and all else is as it was
pub record HasFolded (old new : Managed) : Type 0 where
  pub kept : new ≡ with_layers old new.layers
  pub layers : AreMerged old.layers new.layers

-- the manager after a checkpoint: the newest rows are the stable table, under no entries
abbrev pub rebuilt_of : Managed → Managed
rebuilt_of m = with_layers m (alone (newest_stable m))
