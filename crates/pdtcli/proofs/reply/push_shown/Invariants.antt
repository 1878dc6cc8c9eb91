use Rattle.std.proofs.Common.{◌∷◌, [], codes, get_or, map, take}
use Rattle.values.specs.Shown.{cell_text}
use Rattle.pdtcli.specs.Records.{TakesFields}
use Rattle.pdtcli.specs.Replies.{call_fields}
use Rattle.pdtcli.proofs.reply.push_shown.Given as goal

-- the client, the verb, the word, and a field for each cell so far
abbrev pub invariant-loop-col : goal.invariant-loop-col
invariant-loop-col l =
    TakesFields l.fn.records l.records
    (call_fields l.clients l.line (codes "Row" ∷ map cell_text (take l.col (get_or l.rows l.fn.at []))))
