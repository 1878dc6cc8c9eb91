use Rattle.std.proofs.Common.{◌≡◌, ◌++◌, take}
use Rattle.codec.specs.Fit.{ArePlain}
use Rattle.codec.specs.Payload.{cells_bytes}
use Rattle.codec.proofs.spelling.append_cells.Given as goal

abbrev pub invariant-loop-cell : goal.invariant-loop-cell
invariant-loop-cell l = record {
  plain : ArePlain (take l.cell-index l.cells);
  spelt : l.out.items ≡ l.fn.out.items ++ cells_bytes (take l.cell-index l.cells);
}
