use Rattle.std.proofs.Common.{◌≡◌, take}
use Rattle.std.specs.List.{All}
use Rattle.stable.specs.Column.{all_may_stand}
use Rattle.stable.specs.Rows.{row_count}
use Rattle.stable.proofs.columns.row_count.Given as goal

-- the columns so far
abbrev pub invariant-loop-column : goal.invariant-loop-column
invariant-loop-column l = record {
  counted : l.count ≡ row_count (take l.column-index l.columns);
  fit : All (λ c. all_may_stand c.ty c.values) (take l.column-index l.columns);
}
