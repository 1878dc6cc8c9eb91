use Rattle.std.proofs.Common.{◌≡◌, ◌++◌, drop}
use Rattle.model.specs.Writes.{replies_to, effects_after_all}
use Rattle.oracle.proofs.table.OrderedTable.write_all.Given as goal

abbrev pub invariant-loop-write : goal.invariant-loop-write
invariant-loop-write l = record {
  replies :
      l.replies.items ++ replies_to l.fn.key_cols l.fn.limit l.fn.self l.after (drop l.write-index l.writes)
      ≡ replies_to l.fn.key_cols l.fn.limit l.fn.self l.fn.effects l.writes;
  effects :
      effects_after_all l.fn.key_cols l.fn.limit l.fn.self l.after (drop l.write-index l.writes)
      ≡ effects_after_all l.fn.key_cols l.fn.limit l.fn.self l.fn.effects l.writes;
}
