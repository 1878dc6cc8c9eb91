use Rattle.std.proofs.Common.{◌≡◌, ◌++◌, ℕ, Some, None, drop, map, get_or, is_some}
use Rattle.merge.specs.Packed.{ColumnView, IsPackedColumn, is_fixed_width}
use Rattle.merge.proofs.packed.Packed.of.Given as goal

-- each column so far is packed where it is one of numbers
abbrev pub invariant-loop-ty : goal.invariant-loop-ty
invariant-loop-ty l =
    (map is_some l.columns.items ++ map is_fixed_width (drop l.ty-index l.schema.types) ≡ map is_fixed_width l.schema.types)
    × ((col : ℕ) (c : ColumnView) → get_or l.columns.items col None ≡ Some c → IsPackedColumn col l.tree.entries c)
