use Rattle.std.proofs.Common.{◌∙◌, ◌≤◌, sym, ap, arith, [], length}
use Rattle.std.proofs.lemmas.List.{drop_all}
use Rattle.oracle.specs.Replay.{effects_when_all}
use Rattle.oracle.proofs.ReplayLemmas.{effects_when_all-due}
use Rattle.oracle.proofs.table.writes.effects_of_writes.Goals as goal

pub returns-clause-due : goal.returns-clause-due
returns-clause-due c limit t due =
    let key_cols = c.args.key_cols in
    let writes = c.args.writes.now in
    let i = c.loop-write.write-index in
    let past : length writes ≤ i = omega (arith, c.loop-write-test.false) in
    sym (ap (effects_when_all key_cols c.loop-write.effects) (drop_all i writes past))
    ∙ c.loop-write.invariant
    ∙ effects_when_all-due key_cols limit t [] writes due
