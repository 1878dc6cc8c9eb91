use Rattle.std.proofs.Common.{◌≡◌, ◌++◌, map}
use Rattle.std.specs.Prelude.{vec_items}
use Rattle.std.specs.Vec.Iter.{into_iter_items}
use Rattle.pdtcli.specs.Clients.{joined_lines}
use Rattle.pdtcli.proofs.clients.join_lines.Given as goal

-- the lines so far, and those that are left
abbrev pub invariant-loop-group : goal.invariant-loop-group
invariant-loop-group l =
    l.all.items ++ joined_lines (map vec_items (into_iter_items l.group-iterator))
    ≡ joined_lines (map vec_items (vec_items l.fn.groups))
