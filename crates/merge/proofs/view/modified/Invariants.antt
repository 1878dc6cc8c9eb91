use Rattle.std.proofs.Common.{◌≡◌, T, not, None}
use Rattle.std.specs.List.{list_all}
use Rattle.std.specs.Option.{option_map}
use Rattle.values.specs.Lent.{value_of}
use Rattle.model.specs.Entries.{are_ordered}
use Rattle.delta.specs.Search.{base_cmp, stands_before}
use Rattle.merge.specs.View.{cells_at, last_cell}
use Rattle.merge.proofs.view.modified.Given as goal

-- the entries that are left are in order, none of them before the modifies, and their cells after what is found so far
-- are those at the SID
abbrev pub invariant-loop-entry : goal.invariant-loop-entry
invariant-loop-entry l =
    T (are_ordered l.tree.key_cols l.entry-iterator)
    × T (list_all (λ e. not (stands_before base_cmp l.sid e)) l.entry-iterator)
    × (last_cell l.col (option_map value_of l.found) (cells_at l.sid l.entry-iterator)
    ≡ last_cell l.col None (cells_at l.sid l.tree.entries))
