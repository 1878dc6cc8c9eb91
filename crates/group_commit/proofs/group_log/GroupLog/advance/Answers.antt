use Rattle.std.proofs.Common.{arith}
use Rattle.group_commit.proofs.GroupLogLemmas.{when_advanced}
use Rattle.group_commit.proofs.group_log.GroupLog.advance.Goals as goal

pub invariant_of-self : goal.invariant_of-self
invariant_of-self g c =
    let i = c.self.invariant in
    let to = c.advance.ensures in
    let number = i.1 in
    (when_advanced _ _ _ _ c.advance.new.self i.0 (omega (arith, to, number)), i.1)
