use Rattle.std.proofs.Common.{◌≡◌, map, drop}
use Rattle.values.specs.Orders.{key_cmp}
use Rattle.stable.specs.Rows.{cell_at}
use Rattle.stable.proofs.columns.compare_rows.Given as goal

-- the cells so far tie
abbrev pub invariant-loop-column : goal.invariant-loop-column
invariant-loop-column l =
    key_cmp (map (cell_at l.i) l.column-items) (map (cell_at l.j) l.column-items)
    ≡ key_cmp (map (cell_at l.i) (drop l.column-index l.column-items)) (map (cell_at l.j) (drop l.column-index l.column-items))
