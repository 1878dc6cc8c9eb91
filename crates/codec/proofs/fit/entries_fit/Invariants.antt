use Rattle.std.proofs.Common.{◌<◌, ◌^◌}
use Rattle.std.specs.List.{All}
use Rattle.codec.specs.Fit.{EntriesFit}
use Rattle.codec.proofs.fit.entries_fit.Given as goal

-- all fit where those that are left do
abbrev pub invariant-loop-entry : goal.invariant-loop-entry
invariant-loop-entry l = record {
  placed : All (λ e. e.sid < 2 ^ 32) l.entry-iterator;
  enough : EntriesFit l.schema l.entry-iterator → EntriesFit l.schema l.tree.entries;
  wanted : EntriesFit l.schema l.tree.entries → EntriesFit l.schema l.entry-iterator;
}
