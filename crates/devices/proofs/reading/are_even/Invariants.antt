use Rattle.std.proofs.Common.{◌≡◌, eqb, drop, length}
use Rattle.std.specs.List.{list_all}
use Rattle.stable.specs.Rows.{row_count}
use Rattle.devices.proofs.reading.are_even.Given as goal

abbrev pub invariant-loop-column : goal.invariant-loop-column
invariant-loop-column l =
    list_all (λ c. eqb (length c.values) (row_count l.columns)) (drop l.column-index l.columns)
    ≡ list_all (λ c. eqb (length c.values) (row_count l.columns)) l.columns
