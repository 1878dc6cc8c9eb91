use Rattle.std.proofs.Common.{◌≡◌, ◌++◌}
use Rattle.model.specs.Entries.{canonical_entries}
use Rattle.oracle.proofs.entries.canonical_entries.Given as goal

abbrev pub invariant-loop-key : goal.invariant-loop-key
invariant-loop-key l = l.entries.items ++ canonical_entries l.fn.table l.key-iterator ≡ canonical_entries l.fn.table l.fn.effects
