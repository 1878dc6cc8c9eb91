use Rattle.std.proofs.Common.{◌≡◌, ◌++◌, take}
use Rattle.std.specs.List.{flat_map}
use Rattle.std.specs.Prelude.{string_bytes}
use Rattle.test_fixtures.specs.Shown.{after_comma}
use Rattle.test_fixtures.proofs.shown.push_cells.Given as goal

-- the cells so far stand in the text
abbrev pub invariant-loop-cell : goal.invariant-loop-cell
invariant-loop-cell l = string_bytes l.text ≡ string_bytes l.initial.text ++ flat_map after_comma (take l.cell-index l.cell-items)
