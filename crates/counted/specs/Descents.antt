-- How far a descent has come, and where it ends.
use Rattle.std.specs.Prelude.{◌≡◌, ℕ, ◌+◌, ◌≤◌, ℤ, Option, List, ◌++◌, length, take, drop}
use Rattle.model.specs.declared.entry.Entry.{Entry}
use Rattle.counted.specs.declared.entry.Lead.{Lead}
use Rattle.counted.specs.Leads.{lead_at}
use Rattle.counted.specs.Sums.{total}

-- some entries come next from a place on
pub record AreNext (entries : List Entry) (n : ℕ) (some : List Entry) : Type 0 where
  pub within : n + length some ≤ length entries
  pub rest : drop n entries ≡ some ++ drop (n + length some) entries

-- the entries below a node come next, those before them add so much, and this is the lead of the one behind them
pub record AreBelow (entries : List Entry) (index : ℕ) (shift : ℤ) (node : List Entry) (next : Option Lead) : Type 0 where
  pub here : AreNext entries index node
  pub sum : shift ≡ total (take index entries)
  pub behind : next ≡ lead_at entries (index + length node)

-- the entries before a place add so much, these come next in its leaf, and this is the lead of the entry there
pub record IsAt (entries : List Entry) (index : ℕ) (shift : ℤ) (leaf : List Entry) (lead : Option Lead) : Type 0 where
  pub here : AreNext entries index leaf
  pub sum : shift ≡ total (take index entries)
  pub there : lead ≡ lead_at entries index
