use Rattle.std.proofs.Common.{◌≡◌, [], drop}
use Rattle.oracle.specs.Replay.{effects_when_all}
use Rattle.oracle.proofs.table.writes.effects_of_writes.Given as goal

-- the writes so far did this
abbrev pub invariant-loop-write : goal.invariant-loop-write
invariant-loop-write l =
    effects_when_all l.key_cols l.effects (drop l.write-index l.writes) ≡ effects_when_all l.key_cols [] l.writes
