use Rattle.std.proofs.Common.{◌≡◌, map, take}
use Rattle.values.specs.declared.value.ColumnType.TheVariants as column
use Rattle.values.specs.declared.value.Value.TheVariants.{Int}
use Rattle.blocks.specs.Column.{AllFit}
use Rattle.blocks.proofs.block.ints_of.Given as goal

abbrev pub invariant-loop-value : goal.invariant-loop-value
invariant-loop-value l = record {
  same : map Int l.ints.items ≡ take l.value-index l.values;
  fit : AllFit column.Int (map Int l.ints.items);
}
