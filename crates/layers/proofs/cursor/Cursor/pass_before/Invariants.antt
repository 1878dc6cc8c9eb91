use Rattle.std.proofs.Common.{◌≡◌, length}
use Rattle.layers.specs.Passing.{AreBefore, IsCursor}
use Rattle.layers.proofs.cursor.Cursor.pass_before.Given as goal

-- those passed stand before the entry
abbrev pub invariant-loop-there : goal.invariant-loop-there
invariant-loop-there l = record {
  cursor : IsCursor l.self;
  before : AreBefore l.rule l.self l.entry;
  tree : l.self.tree.now ≡ l.fn.self.tree.now;
  key_cols : l.key_cols ≡ l.self.tree.now.key_cols;
}

abbrev pub decreases-loop-there : goal.decreases-loop-there
decreases-loop-there l = length l.self.ahead
