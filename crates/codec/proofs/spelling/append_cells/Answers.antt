use Rattle.std.proofs.Common.{take}
use Rattle.codec.specs.Payload.{cells_bytes}
use Rattle.codec.proofs.KeptLemmas.{kept_more}
use Rattle.codec.proofs.spelling.append_cells.Goals as goal

pub returns-in_err-append_cell-clause-kept : goal.returns-in_err-append_cell-clause-kept
returns-in_err-append_cell-clause-kept c =
    kept_more c.args.out.now.items (cells_bytes (take c.loop-cell.cell-index c.args.cells.now)) c.append_cell.new.out.items
    c.loop-cell.out.items c.loop-cell.invariant.spelt c.in_err-append_cell.ensures.kept
