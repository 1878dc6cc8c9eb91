-- A tree on its way past others, and how its entries move.
use Rattle.std.specs.Prelude.{ℕ, ◌+◌, ◌-◌}
use Rattle.model.specs.declared.entry.Entry.{Entry}
use Rattle.model.specs.Entries.{entry_at}
use Rattle.delta.specs.Tree.{Tree}
use Rattle.layers.specs.declared.passage.Form.{Form}
use Rattle.layers.specs.declared.passage.Form.TheVariants as form

-- the tree, in whichever form it is held
abbrev pub held_tree : Form → Tree
held_tree (form.Tree tree) = tree
held_tree (form.List list) = list

-- the entry, so many rows up and so many down
abbrev pub moved_by : ℕ → ℕ → Entry → Entry
moved_by added gone e = entry_at ((e.sid + added) - gone) e.change
