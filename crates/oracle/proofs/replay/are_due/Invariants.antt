use Rattle.std.proofs.Common.{[], drop}
use Rattle.oracle.specs.Replay.{AreDueFrom}
use Rattle.oracle.proofs.replay.are_due.Given as goal

abbrev pub invariant-loop-entry : goal.invariant-loop-entry
invariant-loop-entry l = record {
  all : AreDueFrom l.fn.key_cols l.fn.start l.fn.older l.commits.items (drop l.entry-index l.history) →
      AreDueFrom l.fn.key_cols l.fn.start l.fn.older [] l.history;
  rest : AreDueFrom l.fn.key_cols l.fn.start l.fn.older [] l.history →
      AreDueFrom l.fn.key_cols l.fn.start l.fn.older l.commits.items (drop l.entry-index l.history);
}
