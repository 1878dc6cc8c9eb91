-- What a history stands for: where it starts, and its records.
use Rattle.std.specs.Prelude.{ℕ, List, Bool, true, false, Option, Some, None}
use Rattle.values.specs.Shape.{Columns}
use Rattle.model.specs.declared.clash.ConflictRule.{ConflictRule}
use Rattle.model.specs.History.{Start, Record}
use Rattle.txn.specs.Version.{TableVersion}

pub record Recorded : Type 0 where
  pub schema : Columns
  pub start : Start
  pub records : List Record
  -- whether code keeps them, or clauses alone see them
  pub keeps : Bool
  -- the trees of its commits up to this number are let go
  pub floor : ℕ

-- the start of a history over a version
abbrev pub start_at : TableVersion → ℕ → ℕ → ConflictRule → Start
start_at v limit recent rule = record { table = v.table; base = v.number; limit = limit; recent = recent; rule = rule }

-- the history that starts over a version
abbrev pub recorded_at : TableVersion → ℕ → ℕ → ConflictRule → List Record → Recorded
recorded_at v limit recent rule records =
    record { schema = v.schema; start = start_at v limit recent rule; records = records; keeps = true; floor = v.number }

-- whether there are records that code keeps
abbrev pub keeps_them : Option (List Record) → Bool
keeps_them None = false
keeps_them (Some records) = true
