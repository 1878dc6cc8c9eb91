use Rattle.std.proofs.Common.{◌≡◌, drop, get_or, []}
use Rattle.values.specs.Orders.{key_cmp}
use Rattle.values.specs.Shape.{key_of}
use Rattle.stable.specs.Spans.{HasCells}
use Rattle.stable.proofs.table.StableTable.compare_from.Given as goal

-- the cells so far are the key's, and tie
abbrev pub invariant-loop-col : goal.invariant-loop-col
invariant-loop-col l = record {
  cells : HasCells l.col l.key (get_or l.self.rows l.sid []);
  tie : key_cmp (key_of l.self.schema.key_cols (get_or l.self.rows l.sid [])) l.key
      ≡ key_cmp (drop l.col (key_of l.self.schema.key_cols (get_or l.self.rows l.sid []))) (drop l.col l.key);
}
