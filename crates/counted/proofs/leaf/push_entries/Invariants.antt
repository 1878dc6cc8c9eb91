use Rattle.std.proofs.Common.{◌≡◌, ◌++◌, take}
use Rattle.counted.proofs.leaf.push_entries.Given as goal

-- the entries so far stand at the end
abbrev pub invariant-loop-entry : goal.invariant-loop-entry
invariant-loop-entry l = l.out.items ≡ l.initial.out.items ++ (take l.entry-index l.entries)
