-- What entries add up to, and their order.
use Rattle.std.specs.Prelude.{ℕ, suc, ℤ, pos, negsuc, ◌+ℤ◌, ◌≤◌, ltb, cond, List, [], ◌∷◌}
use Rattle.std.specs.List.{AllByRecursion}
use Rattle.model.specs.declared.entry.Entry.{Entry}
use Rattle.model.specs.declared.entry.Change.{Change}
use Rattle.model.specs.declared.entry.Change.TheVariants.{Ins, Del, Mod}

abbrev pub weight_of : Change → ℤ
weight_of (Ins row) = pos 1
weight_of (Del key) = negsuc 0
weight_of (Mod col value) = pos 0

-- inserts minus deletes
abbrev pub total : List Entry → ℤ
total [] = pos 0
total (e ∷ entries) = weight_of e.change +ℤ total entries

-- the same of the entries below a place
abbrev pub shift_before : ℕ → List Entry → ℤ
shift_before sid [] = pos 0
shift_before sid (e ∷ entries) = cond (ltb e.sid sid) (weight_of e.change) (pos 0) +ℤ shift_before sid entries

-- the first place that an entry may stand at after a change at this one
abbrev pub next_sid : ℕ → Change → ℕ
next_sid sid (Ins row) = sid
next_sid sid (Del key) = suc sid
next_sid sid (Mod col value) = sid

-- no place stands before an earlier entry's, and none at an earlier delete's
abbrev pub IsOrdered : List Entry → Type 0
IsOrdered [] = Unit {0}
IsOrdered (e ∷ entries) = AllByRecursion (λ x. next_sid e.sid e.change ≤ x.sid) entries × IsOrdered entries
