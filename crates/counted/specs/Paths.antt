-- The leaves that come next, at hand at their parent.
use Rattle.std.specs.Prelude.{◌≡◌, ℕ, ◌+◌, ◌≤◌, List, ◌++◌, length, drop}
use Rattle.std.specs.List.{All}
use Rattle.model.specs.declared.entry.Entry.{Entry}
use Rattle.counted.specs.declared.node.Child.{Child}
use Rattle.counted.specs.Shapes.{all_items, items_of}

-- a list begins with another
abbrev pub Begins : List Entry → List Entry → Type 0
Begins front whole = whole ≡ front ++ drop (length front) whole

abbrev pub HasSome : Child → Type 0
HasSome c = 1 ≤ length (items_of c)

-- children with entries, and the entries from a place on begin with theirs
pub record AreFrom (entries : List Entry) (next : ℕ) (children : List Child) : Type 0 where
  pub some : All HasSome children
  pub begins : Begins (all_items children) (drop next entries)

-- so many entries are left from a place on, and the children at hand are those that come next
pub record IsReached (entries : List Entry) (next left : ℕ) (children : List Child) : Type 0 where
  pub within : next + left ≤ length entries
  pub at_hand : 1 ≤ left → AreFrom entries next children
