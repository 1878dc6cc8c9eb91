use Rattle.std.proofs.Common.{◌≡◌, Some, []}
use Rattle.values.specs.Orders.{key_cmp}
use Rattle.model.specs.Maps.{alter_all}
use Rattle.model.specs.Table.{table_of}
use Rattle.oracle.proofs.table.OrderedTable.from_rows.Given as goal

abbrev pub invariant-loop-row : goal.invariant-loop-row
invariant-loop-row l =
    alter_all key_cmp (λ row old. Some row) (table_of l.fn.key_cols l.row-iterator.rest.items) l.by_key.entries
    ≡ alter_all key_cmp (λ row old. Some row) (table_of l.fn.key_cols l.fn.rows.items) []
