use Rattle.std.proofs.Common.{◌≡◌, ◌++◌}
use Rattle.std.specs.List.{flat_map}
use Rattle.std.specs.Prelude.{string_bytes}
use Rattle.test_fixtures.specs.Shown.{after_space, entries_text}
use Rattle.test_fixtures.proofs.shown.entries_text.Given as goal

-- the text is that of the entries so far
abbrev pub invariant-loop-entry : goal.invariant-loop-entry
invariant-loop-entry l = goal.iterator-loop-entry.can_next l.entry-iterator
    × goal.iterator-loop-entry.is_finite l.entry-iterator
    × (string_bytes l.text ++ flat_map after_space l.entry-iterator ≡ entries_text l.fn.entries)
