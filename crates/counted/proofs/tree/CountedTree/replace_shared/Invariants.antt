use Rattle.std.proofs.Common.{◌≡◌, ◌+◌, ◌≤◌, ◌∷◌, ◌++◌, take, drop}
use Rattle.counted.proofs.tree.CountedTree.replace_shared.Given as goal

-- the entries of the run so far are gone but for the new one
abbrev pub invariant-loop : goal.invariant-loop
invariant-loop l = record {
  low : l.start + 1 ≤ l.counter;
  high : l.counter ≤ l.end;
  items : l.tree.entries ≡ take l.start l.self.entries ++ l.fn.entry ∷ drop l.counter l.self.entries;
}
