use Rattle.std.proofs.Common.{◌≡◌, ◌+◌, ◌≤◌, ◌<◌, ◌^◌, ◌++◌, length}
use Rattle.std.specs.List.{All}
use Rattle.model.specs.Folding.{fold_from, folded_entries}
use Rattle.layers.proofs.walk.fold_all.Given as goal

-- the entries so far, with what comes of those that are left, are what comes of all
abbrev pub invariant-loop-entry : goal.invariant-loop-entry
invariant-loop-entry l = record {
  folded :
      l.walk.out.items ++ fold_from l.lower.key_cols l.entry-iterator l.walk.added l.walk.gone l.walk.uppers
      ≡ folded_entries l.lower.key_cols l.lower.entries l.upper.entries;
  lowers : All (λ e. e.sid < 2 ^ 32) l.entry-iterator;
  uppers : All (λ e. e.sid < 2 ^ 32) l.walk.uppers;
  few : (l.walk.added + l.walk.gone) + length l.entry-iterator ≤ 2 ^ 40;
  key_cols : l.walk.key_cols ≡ l.lower.key_cols;
}
