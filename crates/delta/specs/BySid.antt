-- What is looked for at a SID, and what the entry there makes of the base row.
use Rattle.std.specs.Prelude.{ℕ, ◌==◌, Bool, true, false, cond, Option, Some, None, List}
use Rattle.std.proofs.Common.{Ordering}
use Rattle.values.specs.declared.row.Row.{Row}
use Rattle.model.specs.declared.entry.Entry.{Entry}
use Rattle.model.specs.declared.entry.Change.{Change}
use Rattle.model.specs.declared.entry.Change.TheVariants.{Ins, Del, Mod}
use Rattle.model.specs.Entries.{change_cmp}
use Rattle.counted.specs.Changes.{change_of}
use Rattle.delta.specs.declared.by_sid.BaseChange.{BaseChange}
use Rattle.delta.specs.declared.by_sid.BaseChange.TheVariants.{Kept, Modified, Deleted}
use Rattle.delta.specs.declared.by_sid.Sought.{Sought}
use Rattle.delta.specs.declared.by_sid.Sought.TheVariants.{Insert, Base, Change as Stands}
use Rattle.delta.specs.Lookups.{inserted_row}
use Rattle.delta.specs.Search.{insert_cmp, base_cmp}

-- how what is looked for stands to a change at its SID
abbrev pub stand_of : ℕ → Sought → Change → Ordering
stand_of key_cols (Insert key) = insert_cmp key_cols key.now
stand_of key_cols Base = base_cmp
stand_of key_cols (Stands change) = change_cmp key_cols (change_of change)

-- the row that is inserted with the key that is looked for, if there is one
abbrev pub row_sought : ℕ → ℕ → Sought → List Entry → Option Row
row_sought key_cols sid (Insert key) entries = inserted_row key_cols sid key.now entries
row_sought key_cols sid Base entries = None
row_sought key_cols sid (Stands change) entries = None

-- whether it goes
abbrev pub is_deleted : BaseChange → Bool
is_deleted Kept = false
is_deleted Modified = false
is_deleted Deleted = true

-- what a change at its SID makes of the base row
abbrev pub made_of_base : Change → BaseChange
made_of_base (Ins row) = Kept
made_of_base (Del key) = Deleted
made_of_base (Mod col value) = Modified

-- what an entry does, if there is one
abbrev pub base_change : ℕ → Option Entry → BaseChange
base_change sid None = Kept
base_change sid (Some e) = cond (e.sid == sid) (made_of_base e.change) Kept
