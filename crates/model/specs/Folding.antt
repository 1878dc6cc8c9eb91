-- A tree over the image of another one, folded into it: a walk over both in order.
use Rattle.std.specs.Prelude.{ℕ, ◌+◌, ◌-◌, cond, List, [], ◌∷◌, map, slice_set}
use Rattle.std.proofs.Common.{Ordering, Less, Equal, Greater, nat_cmp}
use Rattle.std.specs.Ordering.{is_gt}
use Rattle.values.specs.Orders.{key_cmp}
use Rattle.model.specs.declared.entry.Entry.{Entry}
use Rattle.model.specs.declared.entry.Change.{Change}
use Rattle.model.specs.declared.entry.Change.TheVariants.{Ins, Del, Mod}
use Rattle.values.specs.Shape.{key_of}
use Rattle.model.specs.Entries.{entry_at}

-- what comes of a lower and an upper entry that are next
pub data Meeting : Type 0 where
  -- the upper one comes first
  Upper : Meeting
  -- the lower one comes first
  Lower : Meeting
  -- the upper one takes the place of the lower one
  Over : Meeting
  -- neither is kept
  Neither : Meeting
  -- the upper one changes the lower one
  Into : Change → Meeting

abbrev pub columns_meet : Ordering → Meeting
columns_meet Less = Upper
columns_meet Equal = Over
columns_meet Greater = Lower

abbrev pub added_by : Change → ℕ
added_by (Ins row) = 1
added_by (Del key) = 0
added_by (Mod col value) = 0

abbrev pub gone_by : Change → ℕ
gone_by (Ins row) = 0
gone_by (Del key) = 1
gone_by (Mod col value) = 0

-- the upper entry, at its place in the lower tree's base
abbrev pub lowered_entry : ℕ → ℕ → Entry → Entry
lowered_entry added gone upper = entry_at ((upper.sid + gone) - added) upper.change

module _ (key_cols : ℕ) where
  -- a lower and an upper change at one position
  abbrev pub changes_meet : Change → Change → Meeting
  changes_meet (Ins row) (Ins new) = Upper
  changes_meet (Ins row) (Del key) = Neither
  changes_meet (Ins row) (Mod col value) = Into (Ins (slice_set row col value))
  changes_meet (Del key) (Ins new) = cond (is_gt (key_cmp (key_of key_cols new) key)) Lower Upper
  changes_meet (Del key) upper = Lower
  changes_meet (Mod col value) (Ins new) = Upper
  changes_meet (Mod col value) (Del key) = Over
  changes_meet (Mod col value) (Mod other new) = columns_meet (nat_cmp other col)

  abbrev pub positions_meet : Ordering → Change → Change → Meeting
  positions_meet Less lower upper = Upper
  positions_meet Equal lower upper = changes_meet lower upper
  positions_meet Greater lower upper = Lower

  -- where `added` inserts and `gone` deletes of the lower tree were passed
  abbrev pub meet : ℕ → ℕ → Entry → Entry → Meeting
  meet added gone lower upper = positions_meet (nat_cmp (upper.sid + gone) (lower.sid + added)) lower.change upper.change

  -- the upper entries against one lower entry; `rest` walks the lower ones after it
  abbrev pub fold_one : Entry → (ℕ → ℕ → List Entry → List Entry) → ℕ → ℕ → List Entry → List Entry
  fold_one lower rest added gone [] = lower ∷ rest (added + added_by lower.change) (gone + gone_by lower.change) []
  fold_one lower rest added gone (upper ∷ uppers) =
      elim (meet added gone lower upper) as (λ _. List Entry) [
        | Upper ↦ lowered_entry added gone upper ∷ fold_one lower rest added gone uppers
        | Lower ↦ lower ∷ rest (added + added_by lower.change) (gone + gone_by lower.change) (upper ∷ uppers)
        | Over ↦ rest added gone (upper ∷ uppers)
        | Neither ↦ rest (added + added_by lower.change) (gone + gone_by lower.change) uppers
        | Into change ↦ fold_one (entry_at lower.sid change) rest added gone uppers
      ]

  abbrev pub fold_from : List Entry → ℕ → ℕ → List Entry → List Entry
  fold_from [] added gone uppers = map (lowered_entry added gone) uppers
  fold_from (lower ∷ lowers) added gone uppers = fold_one lower (fold_from lowers) added gone uppers

  abbrev pub folded_entries : List Entry → List Entry → List Entry
  folded_entries lowers uppers = fold_from lowers 0 0 uppers
