-- How a change is kept in an entry, and lent.
use Rattle.values.specs.declared.value.Value.TheVariants.{Int, Bool as Truth}
use Rattle.values.specs.Lent.{value_of}
use Rattle.model.specs.declared.entry.Change.{Change}
use Rattle.model.specs.declared.entry.Change.TheVariants.{Ins, Del, Mod}
use Rattle.counted.specs.declared.entry.Kept.{Kept}
use Rattle.counted.specs.declared.entry.Kept.TheVariants as kept
use Rattle.counted.specs.declared.entry.ChangeRef.{ChangeRef}
use Rattle.counted.specs.declared.entry.ChangeRef.TheVariants as lent

-- the change that is lent
abbrev pub change_of : ChangeRef → Change
change_of (lent.Ins row) = Ins row.now
change_of (lent.Del key) = Del key.now
change_of (lent.Mod col value) = Mod col (value_of value)

-- the change that is kept
abbrev pub kept_change : Kept → Change
kept_change (kept.Number col number) = Mod col (Int number)
kept_change (kept.Truth col truth) = Mod col (Truth truth)
kept_change (kept.Inserted row) = Ins row
kept_change (kept.Deleted key) = Del key.value
kept_change (kept.Modified col value) = Mod col value.value
