use Rattle.std.specs.List.{All}
use Rattle.codec.specs.Fit.{EntryFits}
use Rattle.codec.proofs.KeptLemmas.{IsWritten}
use Rattle.codec.proofs.spelling.append_entries.Given as goal

abbrev pub invariant-loop-entry : goal.invariant-loop-entry
invariant-loop-entry l = record {
  fits : All (EntryFits l.schema) l.entry-iterator;
  written : IsWritten l.fn.out.items l.out.items l.tree.entries l.entry-iterator;
}
