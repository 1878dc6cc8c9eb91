use Rattle.std.proofs.Common.{◌≡◌, ◌≤◌, Some, length, map, take, drop}
use Rattle.std.specs.Prelude.{slice_get}
use Rattle.model.specs.declared.entry.Entry.{Entry}
use Rattle.model.specs.Rebasing.{first_clash, first_clash_from, rebased_entry}
use Rattle.layers.specs.Passing.{IsReady, put_entries, searched_tree}
use Rattle.layers.proofs.rebase.serialize.Given as goal

-- the entries so far clash with none, and are made consecutive; the next one can be looked for
abbrev pub invariant-loop-entry : goal.invariant-loop-entry
invariant-loop-entry l = record {
  left : l.entry-iterator ≡ drop l.index l.x.entries;
  within : l.index ≤ length l.x.entries;
  tree : searched_tree l.search ≡ l.y;
  ready : (e : Entry) → slice_get l.x.entries l.index ≡ Some e → IsReady l.rule l.search e;
  moved : put_entries l.index l.x.entries l.entries.items ≡ map (rebased_entry l.y.key_cols l.y.entries) (take l.index l.x.entries);
  clear :
      first_clash l.rule l.y.key_cols l.x.entries l.y.entries
      ≡ first_clash_from l.rule l.y.key_cols l.index (drop l.index l.x.entries) l.y.entries;
}
