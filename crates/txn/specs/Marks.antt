-- Where a transaction can go back to.
use Rattle.std.specs.Prelude.{◌≡◌, ℕ, ◌≤◌, List, ◌++◌, take, length}
use Rattle.model.specs.declared.write.Write.{Write}
use Rattle.model.specs.declared.write.WriteReply.{WriteReply}
use Rattle.delta.specs.Tree.{Tree}
use Rattle.txn.specs.Txn.{Transaction, tree_of}

-- how many writes a transaction had, and its tree then
pub record Marked : Type 0 where
  pub count : ℕ
  pub tree : Tree

-- a transaction as it stands
abbrev pub mark_of : Transaction → Marked
mark_of txn = record { count = length txn.writes; tree = tree_of txn }

-- the transaction that has the first so many of its writes alone
abbrev pub with_first : ℕ → Transaction → Transaction
with_first count txn = record txn { writes = take count txn.writes }

-- a mark stands in a transaction: it has so many writes, and the tree is that of these
pub record IsMark (mark : Marked) (txn : Transaction) : Type 0 where
  pub within : mark.count ≤ length txn.writes
  pub tree_is : mark.tree ≡ tree_of (with_first mark.count txn)

-- the new one has what the old one has, and may have further writes
pub record GoesOn (old new : Transaction) : Type 0 where
  pub later : List (Write × WriteReply)
  pub new_is : new ≡ record old { writes = old.writes ++ later }

-- ---- how long a mark stands

-- a mark stands where it is made, through further writes, and through going back to one that isn't older
pub record MarksStand : Type 0 where
  pub made : (txn : Transaction) → IsMark (mark_of txn) txn
  pub written : (mark : Marked) (old new : Transaction) → IsMark mark old → GoesOn old new → IsMark mark new
  pub gone_back : (mark : Marked) (txn : Transaction) (count : ℕ) → IsMark mark txn → mark.count ≤ count
      → IsMark mark (with_first count txn)
