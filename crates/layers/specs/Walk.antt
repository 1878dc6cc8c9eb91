-- A walk over two trees, in which the upper one is folded into the lower one.
use Rattle.std.specs.Prelude.{Option, Some, None, List, [], ◌∷◌}
use Rattle.model.specs.declared.entry.Entry.{Entry}
use Rattle.model.specs.declared.entry.Change.{Change}
use Rattle.model.specs.declared.entry.Change.TheVariants.{Ins, Del, Mod}
use Rattle.model.specs.Edits.{change_with_cell}
use Rattle.model.specs.Folding.{Meeting}
use Rattle.model.specs.Folding as fold
use Rattle.layers.specs.declared.meeting.Meeting.{Meeting as Met}
use Rattle.layers.specs.declared.meeting.Meeting.TheVariants.{Upper, Lower, Over, Neither, Into}

-- the first entry of those that are left, if there is one, and the others
abbrev pub entries_ahead : Option Entry → List Entry → List Entry
entries_ahead None rest = []
entries_ahead (Some e) rest = e ∷ rest

-- which kind of meeting it is
abbrev pub meeting_of : Meeting → Met
meeting_of fold.Upper = Upper
meeting_of fold.Lower = Lower
meeting_of fold.Over = Over
meeting_of fold.Neither = Neither
meeting_of (fold.Into change) = Into

-- the lower change with what the upper one makes of it, where that is another cell
abbrev pub changed_by : Change → Change → Change
changed_by lower (Ins row) = lower
changed_by lower (Del key) = lower
changed_by lower (Mod col value) = change_with_cell col value lower
