use Rattle.std.proofs.Common.{◌∷◌, codes, map, take}
use Rattle.values.specs.Shown.{cell_text}
use Rattle.pdtcli.specs.Records.{TakesFields}
use Rattle.pdtcli.proofs.reply.push_row.Given as goal

-- the word, and a field for each cell so far
abbrev pub invariant-loop-cell : goal.invariant-loop-cell
invariant-loop-cell l = TakesFields l.fn.records l.records (codes "Row" ∷ map cell_text (take l.cell-index l.cells))
