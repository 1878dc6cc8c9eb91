use Rattle.std.proofs.Common.{◌≡◌, ◌<◌, ◌^◌, T}
use Rattle.std.specs.List.{All}
use Rattle.model.specs.declared.entry.Entry.{Entry}
use Rattle.model.specs.Entries.{are_ordered}
use Rattle.model.specs.Rebasing.{rebased_entry}
use Rattle.layers.proofs.rebase.moves_none.Given as goal

-- the entries that are left are in order, and move each entry as all do
abbrev pub invariant-loop-entry : goal.invariant-loop-entry
invariant-loop-entry l = record {
  ordered : T (are_ordered l.y.key_cols l.entry-iterator);
  placed : All (λ e. e.sid < 2 ^ 32) l.entry-iterator;
  alike : (e : Entry) → rebased_entry l.y.key_cols l.y.entries e ≡ rebased_entry l.y.key_cols l.entry-iterator e;
}
