use Rattle.std.proofs.Common.{◌≡◌, map, take}
use Rattle.values.specs.declared.value.ColumnType.TheVariants as column
use Rattle.values.specs.declared.value.Value.TheVariants.{Int}
use Rattle.blocks.specs.Column.{AllFit}
use Rattle.blocks.specs.Places.{value_at}
use Rattle.blocks.proofs.gathering.ints_at.Given as goal

abbrev pub invariant-loop-place : goal.invariant-loop-place
invariant-loop-place l = record {
  same : map Int l.ints.items ≡ map (value_at l.blocks) (take l.place-index l.places);
  fit : AllFit column.Int (map Int l.ints.items);
}
