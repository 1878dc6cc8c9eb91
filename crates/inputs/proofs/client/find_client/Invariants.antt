use Rattle.std.proofs.Common.{◌≡◌, drop}
use Rattle.inputs.specs.Cells.{place_from}
use Rattle.inputs.proofs.client.find_client.Given as goal

-- no client so far has the name
abbrev pub invariant-loop-i : goal.invariant-loop-i
invariant-loop-i l = place_from 0 l.name l.clients ≡ place_from l.i l.name (drop l.i l.clients)
