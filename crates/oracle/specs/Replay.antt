-- A history decided record by record, whatever the schema's columns: only the number of key columns matters to a reply.
use Rattle.std.specs.Prelude.{◌≡◌, ℕ, ◌+◌, ◌≤◌, nat_le, IsTrue, MatchOption, IsSomeAnd, cond, Option, Some, List, [], ◌∷◌, map, length, slice_get}
use Rattle.std.specs.List.{list_all}
use Rattle.values.specs.Shape.{Columns}
use Rattle.model.specs.declared.write.Write.{Write}
use Rattle.model.specs.declared.write.WriteReply.{WriteReply}
use Rattle.model.specs.Table.{Table, IsTable}
use Rattle.model.specs.Effects.{Effects}
use Rattle.values.specs.Orders.{key_cmp}
use Rattle.model.specs.Maps.{alter}
use Rattle.model.specs.Composition.{composed_effect}
use Rattle.model.specs.Writes.{write_fits_schema, key_of_write, effect_of_write, is_done, replies_to, effects_after_all}
use Rattle.model.specs.History.{table_after, Start, Record, writes_of, due_reply, commits_with, effects_of_record, commits_after}

module _ (key_cols limit : ℕ) (t : Table) where
  -- each write got the reply that is due after those before it
  abbrev pub GotDueReplies : Effects → List (Write × WriteReply) → Type 0
  GotDueReplies effects writes = map (λ w. w.1) writes ≡ replies_to key_cols limit t effects (map (λ w. w.0) writes)

  -- the effects of the writes, or none where one of them got another reply
  abbrev pub AreAnswered : List (Write × WriteReply) → Option Effects → Type 0
  AreAnswered writes found =
      MatchOption found (¬ (GotDueReplies [] writes))
      (λ effects. GotDueReplies [] writes × (effects ≡ effects_after_all key_cols limit t [] (map (λ w. w.0) writes)))

-- ---- writes with their replies

-- the effects after a write that got this reply
abbrev pub effects_when : ℕ → Effects → Write × WriteReply → Effects
effects_when key_cols effects w =
    cond (is_done w.1) (alter key_cmp (key_of_write key_cols w.0) (composed_effect (effect_of_write w.0)) effects) effects

-- the effects after writes that got these replies
abbrev pub effects_when_all : ℕ → Effects → List (Write × WriteReply) → Effects
effects_when_all key_cols effects [] = effects
effects_when_all key_cols effects (w ∷ writes) = effects_when_all key_cols (effects_when key_cols effects w) writes

-- ---- records

-- a schema of this many key columns
abbrev pub keyed_by : ℕ → Columns
keyed_by key_cols = record { names = []; types = []; key_cols = key_cols }

-- the table of a number: from the start's own on by the commits, and below it among the older ones, if it is there
abbrev pub snapshot_at : Start → List Table → List Effects → ℕ → Option Table
snapshot_at start older commits k = cond (nat_le start.base k) (Some (table_after start commits k)) (slice_get older k)

module _ (key_cols : ℕ) (start : Start) (older : List Table) where
  -- a record that began at a number that was there and got the replies that are due
  pub record IsDue (commits : List Effects) (r : Record) : Type 0 where
    pub begun : r.begin ≤ start.base + length commits
    pub answered : IsSomeAnd (snapshot_at start older commits r.begin) (λ t. GotDueReplies key_cols start.limit t [] r.writes)
    pub replied : r.reply ≡ due_reply start commits r.begin (effects_of_record (keyed_by key_cols) start commits r)

  -- each record is due after those before it
  abbrev pub AreDueFrom : List Effects → List Record → Type 0
  AreDueFrom commits [] = Unit {0}
  AreDueFrom commits (r ∷ history) = IsDue commits r × AreDueFrom (commits_after (keyed_by key_cols) start commits r) history

  -- a record is due and leaves the commits that it leaves with these effects, or it isn't due
  abbrev pub IsDueAs : List Effects → Record → Option Effects → Type 0
  IsDueAs commits r found =
      MatchOption found (¬ (IsDue commits r))
      (λ effects. IsDue commits r × (commits_with commits effects r.reply ≡ commits_after (keyed_by key_cols) start commits r))

-- each write of a history may be asked for under the schema
abbrev pub AllFitSchema : Columns → List Record → Type 0
AllFitSchema schema history = IsTrue (list_all (λ r. list_all (write_fits_schema schema) (writes_of r)) history)

-- each of them is a table of the schema
abbrev pub AreTables : Columns → List Table → Type 0
AreTables schema [] = Unit {0}
AreTables schema (t ∷ tables) = IsTable schema t × AreTables schema tables

-- each record began at this number or a later one
abbrev pub AllBeginFrom : ℕ → List Record → Type 0
AllBeginFrom base history = IsTrue (list_all (λ r. nat_le base r.begin) history)
