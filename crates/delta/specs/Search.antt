-- Where a change stands among entries in order.
use Rattle.std.specs.Prelude.{◌≡◌, ℕ, ℤ, pos, int_lt, ◌≤◌, Bool, cond, not, T, Option, Some, None, List, length, take, drop}
use Rattle.std.proofs.Common.{Ordering, Less, Equal, Greater}
use Rattle.std.specs.Ordering.{nat_cmp, is_gt, ordering_then}
use Rattle.std.specs.List.{list_all}
use Rattle.values.specs.Orders.{key_cmp}
use Rattle.values.specs.Shape.{key_of}
use Rattle.values.specs.declared.row.Key.{Key}
use Rattle.model.specs.declared.entry.Entry.{Entry}
use Rattle.model.specs.declared.entry.Change.{Change}
use Rattle.model.specs.declared.entry.Change.TheVariants.{Ins, Del, Mod}
use Rattle.model.specs.Entries.{change_cmp}

-- how what stands before all at a SID stands to a change there
abbrev pub first_cmp : Change → Ordering
first_cmp change = Less

-- how an insert of the key stands to a change at its SID
abbrev pub insert_cmp : ℕ → Key → Change → Ordering
insert_cmp key_cols key (Ins row) = key_cmp key (key_of key_cols row)
insert_cmp key_cols key (Del gone) = Less
insert_cmp key_cols key (Mod col value) = Less

-- how what becomes of the base row stands to a change at its SID
abbrev pub base_cmp : Change → Ordering
base_cmp (Ins row) = Greater
base_cmp (Del key) = Equal
base_cmp (Mod col value) = Equal

-- how a modify of the column stands to a change at its SID
abbrev pub modify_cmp : ℕ → Change → Ordering
modify_cmp col (Ins row) = Greater
modify_cmp col (Del key) = Equal
modify_cmp col (Mod other value) = nat_cmp col other

-- how all that stands at a SID, and what stands past it, stands to a change there
abbrev pub past_cmp : Change → Ordering
past_cmp change = Greater

-- the same by what a change adds alone, where that tells
abbrev pub insert_by_weight : ℤ → Option Ordering
insert_by_weight weight = cond (int_lt (pos 0) weight) None (Some Less)

abbrev pub base_by_weight : ℤ → Option Ordering
base_by_weight weight = cond (int_lt (pos 0) weight) (Some Greater) (Some Equal)

abbrev pub modify_by_weight : ℤ → Option Ordering
modify_by_weight weight = cond (int_lt (pos 0) weight) (Some Greater) (cond (int_lt weight (pos 0)) (Some Equal) None)

abbrev pub past_by_weight : ℤ → Option Ordering
past_by_weight weight = Some Greater

-- whether an entry stands before what stands so to a change at the SID
abbrev pub stands_before : (Change → Ordering) → ℕ → Entry → Bool
stands_before cmp sid e = is_gt (ordering_then (nat_cmp sid e.sid) (cmp e.change))

-- the first n entries pass the test, and no other does
pub record IsSplit (test : Entry → Bool) (entries : List Entry) (n : ℕ) : Type 0 where
  pub within : n ≤ length entries
  pub before : T (list_all test (take n entries))
  pub after : T (list_all (λ e. not (test e)) (drop n entries))

module _ (key_cols : ℕ) where
  -- what stands past a change stands past those before it
  abbrev pub IsClosed : (Change → Ordering) → Type 0
  IsClosed cmp = (x y : Change) → change_cmp key_cols x y ≡ Less → cmp y ≡ Greater → cmp x ≡ Greater
