use Rattle.std.proofs.Common.{◌≡◌, ◌++◌, map}
use Rattle.model.specs.Entries.{entry_at}
use Rattle.model.specs.declared.entry.Change.TheVariants.{Mod}
use Rattle.oracle.proofs.entries.push_modifies.Given as goal

abbrev pub invariant-loop-col : goal.invariant-loop-col
invariant-loop-col l =
    l.entries.items ++ map (λ c. entry_at l.fn.sid (Mod c.0 c.1)) l.col-iterator
    ≡ l.fn.entries.items ++ map (λ c. entry_at l.fn.sid (Mod c.0 c.1)) l.fn.cells
