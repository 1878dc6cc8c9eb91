use Rattle.std.proofs.Common.{◌≡◌, suc, ◌-◌, T, take, length}
use Rattle.std.specs.List.{list_all}
use Rattle.merge.specs.Cursor.{entries_left, entries_past, is_past}
use Rattle.merge.proofs.cursor.Cursor.pass_row_entries.Given as goal

-- the entries past those at the SID are the same from the place so far, and what is past stays so
abbrev pub invariant-loop-entry : goal.invariant-loop-entry
invariant-loop-entry l = record {
  tree : l.self.tree ≡ l.fn.self.tree;
  sid : l.self.sid ≡ l.fn.self.sid;
  rest : entries_past l.fn.self.sid (entries_left l.self) ≡ entries_past l.fn.self.sid (entries_left l.fn.self);
  past : T (list_all (is_past (suc l.fn.self.sid)) (take l.fn.self.index l.fn.self.tree.entries))
      → T (list_all (is_past (suc l.fn.self.sid)) (take l.self.index l.fn.self.tree.entries));
}

abbrev pub decreases-loop-entry : goal.decreases-loop-entry
decreases-loop-entry l = length l.self.tree.entries - l.self.index
