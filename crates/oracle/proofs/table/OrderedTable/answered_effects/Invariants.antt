use Rattle.std.proofs.Common.{◌≡◌, [], drop, map}
use Rattle.model.specs.Writes.{effects_after_all}
use Rattle.oracle.specs.Replay.{GotDueReplies}
use Rattle.oracle.proofs.table.OrderedTable.answered_effects.Given as goal

abbrev pub invariant-loop-write : goal.invariant-loop-write
invariant-loop-write l = record {
  all : GotDueReplies l.fn.key_cols l.fn.limit l.fn.self l.effects (drop l.write-index l.writes)
      → GotDueReplies l.fn.key_cols l.fn.limit l.fn.self [] l.writes;
  rest : GotDueReplies l.fn.key_cols l.fn.limit l.fn.self [] l.writes
      → GotDueReplies l.fn.key_cols l.fn.limit l.fn.self l.effects (drop l.write-index l.writes);
  effects :
      effects_after_all l.fn.key_cols l.fn.limit l.fn.self l.effects (map (λ w. w.0) (drop l.write-index l.writes))
      ≡ effects_after_all l.fn.key_cols l.fn.limit l.fn.self [] (map (λ w. w.0) l.writes);
}
