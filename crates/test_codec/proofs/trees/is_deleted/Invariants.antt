use Rattle.std.proofs.Common.{◌≡◌}
use Rattle.std.specs.List.{list_any}
use Rattle.delta.specs.Lookups.{has_delete}
use Rattle.model.specs.Entries.{is_delete}
use Rattle.test_codec.proofs.trees.is_deleted.Given as goal

-- a delete that is there is among those that are left
abbrev pub invariant-loop-entry : goal.invariant-loop-entry
invariant-loop-entry l = has_delete l.fn.sid l.fn.tree.entries ≡ list_any (λ e. is_delete e.change) l.entry-iterator
