-- Legal histories: their commits fit the tables that they found, and no table has more rows than the limit.
use Rattle.std.proofs.Common.{◌≡◌, ℕ, zero, suc, ◌+◌, ◌-◌, ◌<◌, ◌≤◌, Bool, true, false, ◌&&◌, List, [], ◌∷◌, ◌++◌, length, take, drop, refl, arith, rules}
use Rattle.std.specs.Prelude.{nat_lt, IsTrue}
use Rattle.std.specs.List.{list_all, list_any}
use Rattle.std.proofs.lemmas.Bool.Decides.{nat_tests}
use Rattle.values.specs.Shape.{Columns}
use Rattle.model.specs.declared.write.CommitReply.TheVariants.{TooOld}
use Rattle.model.specs.Table.{Table, IsTable}
use Rattle.model.specs.Effects.{Effects, AreOver, table_with}
use Rattle.model.specs.Writes.{write_fits_schema, effects_after}
use Rattle.model.specs.Clashes.{conflicts}
use Rattle.model.specs.History.{table_with_all, table_after, Start, Record, due_reply, commits_with, effects_of_record, IsSnapshot, IsLegalRecord, IsLegalFrom, commits_after, commits_from}
use Rattle.model.specs.Laws.{LeavesTable, WriteKeeps, WritesKeep, RebasesEntries, AreCommits, LegalCommitsFit, LegalTablesKeepLimit}
use Rattle.model.proofs.TurnsLemmas.{over-table_with_all}
use Rattle.std.proofs.lemmas.Grind.{common_steps}

-- the first of two tests that both hold
pub left_true : (a b : Bool) → IsTrue (a && b) → IsTrue a
left_true true b h = refl
left_true false b h = h

-- and the second
pub right_true : (a b : Bool) → IsTrue (a && b) → IsTrue b
right_true true b h = h
right_true false b h = cc

-- ---- tables after commits

-- the commits after the first k, after those k
pub table_with_all-drop : (t : Table) (commits : List Effects) (k : ℕ) → table_with_all (table_with_all t (take k commits)) (drop k commits)
    ≡ table_with_all t commits
table_with_all-drop t commits zero = refl
table_with_all-drop t [] (suc k) = refl
table_with_all-drop t (x ∷ commits) (suc k) = table_with_all-drop (table_with t x) commits k

-- ---- snapshots

module _ (schema : Columns) (start : Start) (commits : List Effects) (k : ℕ) where
  -- the table of a number from the base on is the snapshot of that number
  pub IsSnapshot-table_after : start.base ≤ k → IsSnapshot schema start commits k (table_after start commits k)
  IsSnapshot-table_after above = record { kept = λ here. refl; cut = λ below. absurd (omega (arith, above, below)) }

  -- any table of the schema may be that of a number below the base
  pub IsSnapshot-any : (t : Table) → k < start.base → IsTable schema t → IsSnapshot schema start commits k t
  IsSnapshot-any t below table = record { kept = λ above. absurd (omega (arith, above, below)); cut = λ here. table }

  -- what began below the base is too old
  pub due_reply-cut : (x : Effects) → k < start.base → due_reply start commits k x ≡ TooOld (start.base + length commits)
  due_reply-cut x below = search rules

-- ---- commits, each over the table that it found

module _ (schema : Columns) where
  -- the first k commits are over the tables that they found
  AreCommits-take : (t : Table) (commits : List Effects) (k : ℕ) → AreCommits schema t commits → AreCommits schema t (take k commits)
  AreCommits-take t commits zero h = tt
  AreCommits-take t [] (suc k) h = tt
  AreCommits-take t (x ∷ commits) (suc k) h = (h.0, AreCommits-take (table_with t x) commits k h.1)

  -- and so are the rest, from the table after those k on
  pub AreCommits-drop : (t : Table) (commits : List Effects) (k : ℕ) → AreCommits schema t commits →
      AreCommits schema (table_with_all t (take k commits)) (drop k commits)
  AreCommits-drop t commits zero h = h
  AreCommits-drop t [] (suc k) h = tt
  AreCommits-drop t (x ∷ commits) (suc k) h = AreCommits-drop (table_with t x) commits k h.1

  -- one more commit is over the table after all of them
  AreCommits-append : (t : Table) (commits : List Effects) (x : Effects) → AreCommits schema t commits
      → AreOver schema (table_with_all t commits) x → AreCommits schema t (commits ++ x ∷ [])
  AreCommits-append t [] x h over = (over, tt)
  AreCommits-append t (y ∷ commits) x h over = (h.0, AreCommits-append (table_with t y) commits x h.1 over)

  -- no effects are over any table of the schema
  pub over_none : (t : Table) → IsTable schema t → AreOver schema t []
  over_none t h = record { table = h; effects_are = record { keyed = refl; fitting = refl }; fit = refl }

  -- commits leave a table of the schema
  pub IsTable-table_with_all : LeavesTable schema → (t : Table) (commits : List Effects) → IsTable schema t
      → AreCommits schema t commits → IsTable schema (table_with_all t commits)
  IsTable-table_with_all leaves t [] h commits_are = h
  IsTable-table_with_all leaves t (x ∷ commits) h commits_are =
      IsTable-table_with_all leaves (table_with t x) commits (leaves t x commits_are.0) commits_are.1

  -- ---- writes in order

  -- writes keep the effects over the snapshot
  pub over-effects_after_all : WriteKeeps schema → WritesKeep schema
  over-effects_after_all keeps limit t x [] h fit = h
  over-effects_after_all keeps limit t x (write ∷ writes) h fit =
      over-effects_after_all keeps limit t (effects_after schema.key_cols limit t x write) writes
      (keeps limit t x write h (left_true (write_fits_schema schema write) (list_all (write_fits_schema schema) writes) fit))
      (right_true (write_fits_schema schema write) (list_all (write_fits_schema schema) writes) fit)

-- ---- one more record

module _ (start : Start) (P : List Effects → Type 0) where
  -- what holds of the commits holds after the reply that is due, if it holds with the effects where these are committed
  commits_with-due_reply : (commits : List Effects) (k : ℕ) (x : Effects) → P commits →
      (list_any (conflicts start.rule x) (drop (k - start.base) commits) ≡ false →
      nat_lt start.limit (length (table_with (table_with_all start.table commits) x)) ≡ false → P (commits ++ x ∷ [])) →
      P (commits_with commits x (due_reply start commits k x))
  commits_with-due_reply commits k x kept more = search rules

module _ (schema : Columns) (leaves : LeavesTable schema) (keeps : WriteKeeps schema) (rebases : RebasesEntries schema) where
  module _ (start : Start) (table : IsTable schema start.table) where
    -- the effects of a legal record are over the table of its number
    over-effects_of_record : (commits : List Effects) (r : Record) → AreCommits schema start.table commits →
        IsLegalRecord schema start commits r → AreOver schema (table_after start commits r.begin) (effects_of_record schema start commits r)
    over-effects_of_record commits r commits_are legal = grind (arith, common_steps, AreCommits-take, IsTable-table_with_all, over-effects_after_all, over_none)

    -- a legal record leaves commits that are each over the table that they found
    AreCommits-commits_after : (commits : List Effects) (r : Record) → AreCommits schema start.table commits →
        IsLegalRecord schema start commits r → AreCommits schema start.table (commits_after schema start commits r)
    AreCommits-commits_after commits r commits_are legal = grind (arith, common_steps, over-effects_of_record, commits_with-due_reply, AreCommits-drop, over-table_with_all, table_with_all-drop, AreCommits-append)

    -- and so does a legal history
    AreCommits-commits_from : (commits : List Effects) (history : List Record) → AreCommits schema start.table commits →
        IsLegalFrom schema start commits history → AreCommits schema start.table (commits_from schema start commits history)
    AreCommits-commits_from commits [] commits_are legal = commits_are
    AreCommits-commits_from commits (r ∷ history) commits_are legal =
        let next = AreCommits-commits_after commits r commits_are legal.0 in
        AreCommits-commits_from (commits_after schema start commits r) history next legal.1

  -- the commits of a legal history are each over the table that it found
  pub AreCommits-commits_of : LegalCommitsFit schema
  AreCommits-commits_of start history table legal = AreCommits-commits_from start table [] history tt legal

-- ---- the row limit

module _ (limit : ℕ) where
  -- each table of the commits keeps the limit
  abbrev TablesKeepLimit : Table → List Effects → Type 0
  TablesKeepLimit t commits = (k : ℕ) → length (table_with_all t (take k commits)) ≤ limit

  -- no commits leave the table that keeps it
  TablesKeepLimit-nil : (t : Table) → length t ≤ limit → TablesKeepLimit t []
  TablesKeepLimit-nil t h zero = h
  TablesKeepLimit-nil t h (suc k) = h

  -- one more commit keeps the limit where the table after it does
  TablesKeepLimit-append : (t : Table) (commits : List Effects) (x : Effects) → TablesKeepLimit t commits →
      length (table_with (table_with_all t commits) x) ≤ limit → TablesKeepLimit t (commits ++ x ∷ [])
  TablesKeepLimit-append t commits x h last zero = h zero
  TablesKeepLimit-append t [] x h last (suc k) = TablesKeepLimit-nil (table_with t x) last k
  TablesKeepLimit-append t (y ∷ commits) x h last (suc k) = TablesKeepLimit-append (table_with t y) commits x (λ j. h (suc j)) last k

  -- a count that isn't past the limit is within it
  within : (n : ℕ) → nat_lt limit n ≡ false → n ≤ limit
  within n h = grind (arith, nat_tests)

module _ (schema : Columns) (start : Start) where
  -- a legal record keeps the limit
  TablesKeepLimit-commits_after : (commits : List Effects) (r : Record) → TablesKeepLimit start.limit start.table commits →
      IsLegalRecord schema start commits r → TablesKeepLimit start.limit start.table (commits_after schema start commits r)
  TablesKeepLimit-commits_after commits r kept legal = grind (arith, common_steps, commits_with-due_reply, TablesKeepLimit-append, within)

  -- and so does a legal history
  TablesKeepLimit-commits_from : (commits : List Effects) (history : List Record) → TablesKeepLimit start.limit start.table commits →
      IsLegalFrom schema start commits history → TablesKeepLimit start.limit start.table (commits_from schema start commits history)
  TablesKeepLimit-commits_from commits [] kept legal = kept
  TablesKeepLimit-commits_from commits (r ∷ history) kept legal =
      let next = TablesKeepLimit-commits_after commits r kept legal.0 in
      TablesKeepLimit-commits_from (commits_after schema start commits r) history next legal.1

-- no table of a legal history has more rows than the limit
pub length-table_after : (schema : Columns) → LegalTablesKeepLimit schema
length-table_after schema start history k few legal =
    TablesKeepLimit-commits_from schema start [] history (TablesKeepLimit-nil start.limit start.table few) legal (k - start.base)
