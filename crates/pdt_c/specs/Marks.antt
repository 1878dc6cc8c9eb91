-- An open transaction, and the marks to which it can go back.
use Rattle.std.specs.Prelude.{◌≡◌, ℕ, suc, ◌≤◌, List, [], ◌∷◌, ◌++◌, All, Option, Some, cond, slice_get, take}
use Rattle.txn.specs.Txn.{Transaction}
use Rattle.txn.specs.Marks.{Marked, mark_of, with_first, IsMark}
use Rattle.manager.specs.Managed.{Managed}

pub record Opened : Type 0 where
  pub txn : Transaction
  -- the oldest first
  pub marks : List Marked

-- a transaction that has just begun
abbrev pub unmarked : Transaction → Opened
unmarked txn = record { txn = txn; marks = [] }

-- each mark stands in the transaction, and none is younger than one after it
abbrev pub AreMarks : Transaction → List Marked → Type 0
AreMarks txn [] = Unit {0}
AreMarks txn (mark ∷ marks) = IsMark mark txn × All (λ (later : Marked). mark.count ≤ later.count) marks × AreMarks txn marks

-- ---- what a call makes of it

-- what is in the handle of a transaction that is over: all of it, where its history only counts it
abbrev pub handed : Managed → Opened → Option Opened → Option Opened
handed m o before = cond m.keeps before (Some o)

abbrev pub with_mark : Opened → Opened
with_mark o = record o { marks = o.marks ++ mark_of o.txn ∷ [] }

-- it has the writes that it had at a mark, which stays, and none after it
pub record GoesBack (level : ℕ) (old new : Opened) : Type 0 where
  pub mark : Marked
  pub mark_is : slice_get old.marks level ≡ Some mark
  pub new_is : new ≡ record { txn = with_first mark.count old.txn; marks = take (suc level) old.marks }

-- the mark and those after it are gone
abbrev pub released : ℕ → Opened → Opened
released level o = record o { marks = take level o.marks }
