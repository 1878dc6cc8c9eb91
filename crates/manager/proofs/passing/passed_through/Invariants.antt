use Rattle.std.proofs.Common.{drop}
use Rattle.model.specs.History.{table_with_all}
use Rattle.manager.specs.Passing.{MayPass}
use Rattle.manager.proofs.PassingLemmas.{IsOnItsWay}
use Rattle.manager.proofs.passing.passed_through.Given as goal

-- the tree is consecutive to the kept ones before the index
abbrev pub invariant-loop-index : goal.invariant-loop-index
invariant-loop-index l =
    (w : MayPass l.conflicts (drop l.first l.kept.items) l.fn.tree) →
    IsOnItsWay l.conflicts w.schema w.x w.rest (table_with_all w.now w.rest) (drop l.index l.kept.items) l.passage
