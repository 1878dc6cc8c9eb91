use Rattle.std.proofs.Common.{◌≡◌, ◌≤◌, ◌++◌}
use Rattle.std.specs.Prelude.{replicate}
use Rattle.std.specs.List.{AllByRecursion}
use Rattle.blocks.specs.Cuts.{IsText}
use Rattle.blocks.proofs.spelled.Spelled.with_copies.Given as goal

-- so many copies are behind the texts
abbrev pub invariant-loop : goal.invariant-loop
invariant-loop l = record {
  within : l.counter ≤ l.count;
  longer : l.longer ≡ l.self ++ replicate l.counter l.text;
  texts : AllByRecursion IsText l.longer;
}
