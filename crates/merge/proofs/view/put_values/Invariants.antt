use Rattle.std.proofs.Common.{◌≡◌, T, not}
use Rattle.std.specs.List.{list_all}
use Rattle.model.specs.Entries.{are_ordered}
use Rattle.delta.specs.Search.{base_cmp, stands_before}
use Rattle.merge.specs.View.{cells_at, values_of, with_cells}
use Rattle.merge.proofs.view.put_values.Given as goal

-- the entries that are left are in order, none of them before the modifies, and with their cells all values are in place
abbrev pub invariant-loop-entry : goal.invariant-loop-entry
invariant-loop-entry l =
    T (are_ordered l.tree.key_cols l.entry-iterator)
    × T (list_all (λ e. not (stands_before base_cmp l.sid e)) l.entry-iterator)
    × (with_cells (cells_at l.sid l.entry-iterator) (values_of l.values.items)
    ≡ with_cells (cells_at l.sid l.tree.entries) (values_of l.fn.values.items))
