-- The sequential table under snapshot isolation: which histories of transactions are legal.
use Rattle.std.specs.Prelude.{◌≡◌, ℕ, suc, ◌+◌, ◌-◌, ◌<◌, ◌≤◌, nat_lt, ◌||◌, cond, IsTrue, List, [], ◌∷◌, ◌++◌, map, length, take, drop}
use Rattle.std.specs.List.{list_all, list_any}
use Rattle.values.specs.Shape.{Columns}
use Rattle.model.specs.declared.write.Write.{Write}
use Rattle.model.specs.declared.write.WriteReply.{WriteReply}
use Rattle.model.specs.declared.write.CommitReply.{CommitReply}
use Rattle.model.specs.declared.write.CommitReply.TheVariants.{Committed, Conflict, TooOld, Full}
use Rattle.model.specs.declared.clash.ConflictRule.{ConflictRule}
use Rattle.model.specs.Table.{Table, IsTable}
use Rattle.model.specs.Effects.{Effects, table_with}
use Rattle.model.specs.Writes.{write_fits_schema, replies_to, effects_after_all}
use Rattle.model.specs.Clashes.{conflicts}

-- the table after all these commits, in order
abbrev pub table_with_all : Table → List Effects → Table
table_with_all t [] = t
table_with_all t (effects ∷ commits) = table_with_all (table_with t effects) commits

-- where a history starts, and by what it goes on
pub record Start : Type 0 where
  -- the table that stands then
  pub table : Table
  -- how many commits came before: numbers of commits go on from it
  pub base : ℕ
  -- how many rows a table may have
  pub limit : ℕ
  -- how many commits may come between a transaction's begin and its commit
  pub recent : ℕ
  -- what conflicts
  pub rule : ConflictRule

-- one transaction that asked to commit
pub record Record : Type 0 where
  pub client : ℕ
  -- how many commits its snapshot has
  pub begin : ℕ
  pub writes : List (Write × WriteReply)
  pub reply : CommitReply

-- what a record asked for, and what it was answered
abbrev pub writes_of : Record → List Write
writes_of r = map (λ w. w.0) r.writes

abbrev pub replies_of : Record → List WriteReply
replies_of r = map (λ w. w.1) r.writes

-- the commits after a reply
abbrev pub commits_with : List Effects → Effects → CommitReply → List Effects
commits_with commits effects (Committed n) = commits ++ effects ∷ []
commits_with commits effects (Conflict n) = commits
commits_with commits effects (TooOld n) = commits
commits_with commits effects (Full n) = commits

module _ (start : Start) where
  -- the table of number k, from the base on: that after the first commits, as many as k is above the base
  abbrev pub table_after : List Effects → ℕ → Table
  table_after commits k = table_with_all start.table (take (k - start.base) commits)

  -- the reply that is due to effects over the table of number k. The number in it is that of the newest table afterwards
  abbrev pub due_reply : List Effects → ℕ → Effects → CommitReply
  due_reply commits k effects =
      let n = start.base + length commits in
      cond (nat_lt k start.base || nat_lt start.recent (n - k)) (TooOld n)
      (cond (list_any (conflicts start.rule effects) (drop (k - start.base) commits)) (Conflict n)
      (cond (nat_lt start.limit (length (table_with (table_with_all start.table commits) effects))) (Full n)
      (Committed (suc n))))

module _ (schema : Columns) (start : Start) where
  -- a table that a transaction may have begun on at number k: from the base on the one of that number. One that began
  -- before the base is always too old, and any table of the schema may have been its snapshot
  pub record IsSnapshot (commits : List Effects) (k : ℕ) (t : Table) : Type 0 where
    pub kept : start.base ≤ k → t ≡ table_after start commits k
    pub cut : k < start.base → IsTable schema t

  -- the effects of a record's writes over its snapshot. Where it began before the base nothing looks at them
  abbrev pub effects_of_record : List Effects → Record → Effects
  effects_of_record commits r = effects_after_all schema.key_cols start.limit (table_after start commits r.begin) [] (writes_of r)

  -- legal after these commits: it began at a number that was there, and each write and the commit got the reply that is due
  pub record IsLegalRecord (commits : List Effects) (r : Record) : Type 0 where
    pub begun : r.begin ≤ start.base + length commits
    pub fitting : IsTrue (list_all (write_fits_schema schema) (writes_of r))
    pub snapshot : Table
    pub is_snapshot : IsSnapshot commits r.begin snapshot
    pub answered : replies_of r ≡ replies_to schema.key_cols start.limit snapshot [] (writes_of r)
    pub replied : r.reply ≡ due_reply start commits r.begin (effects_of_record commits r)

  abbrev pub commits_after : List Effects → Record → List Effects
  commits_after commits r = commits_with commits (effects_of_record commits r) r.reply

  -- each record is legal after those before it
  abbrev pub IsLegalFrom : List Effects → List Record → Type 0
  IsLegalFrom commits [] = Unit {0}
  IsLegalFrom commits (r ∷ history) = IsLegalRecord commits r × IsLegalFrom (commits_after commits r) history

  -- the commits that a history leaves
  abbrev pub commits_from : List Effects → List Record → List Effects
  commits_from commits [] = commits
  commits_from commits (r ∷ history) = commits_from (commits_after commits r) history

  -- a history is legal from no commits on
  abbrev pub IsLegal : List Record → Type 0
  IsLegal history = IsLegalFrom [] history

  -- its commits
  abbrev pub commits_of : List Record → List Effects
  commits_of history = commits_from [] history
