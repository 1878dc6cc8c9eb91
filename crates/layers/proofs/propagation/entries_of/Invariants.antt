use Rattle.std.proofs.Common.{◌≡◌, ◌++◌, Some, map}
use Rattle.std.specs.Option.{option_copied}
use Rattle.layers.proofs.propagation.entries_of.Given as goal

-- the entries so far, with those that are left, are all
abbrev pub invariant-loop-entry : goal.invariant-loop-entry
invariant-loop-entry l = map option_copied l.entries.items ++ map (λ e. Some e) l.entry-iterator ≡ map (λ e. Some e) l.tree.entries
