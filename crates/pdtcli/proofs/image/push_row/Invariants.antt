use Rattle.std.proofs.Common.{map, take}
use Rattle.values.specs.Shown.{cell_text}
use Rattle.merge.specs.View.{row_of}
use Rattle.pdtcli.specs.Records.{TakesFields}
use Rattle.pdtcli.proofs.image.push_row.Given as goal

-- a field for each cell so far
abbrev pub invariant-loop-col : goal.invariant-loop-col
invariant-loop-col l = TakesFields l.fn.records l.records (map cell_text (take l.col (row_of l.row)))
