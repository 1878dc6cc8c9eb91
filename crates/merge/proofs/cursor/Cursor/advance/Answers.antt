use Rattle.std.proofs.Common.{◌+◌}
use Rattle.merge.proofs.cursor.Cursor.advance.Goals as goal
use Rattle.delta.proofs.CallerLemmas.{next_is}

pub invariant_of-self : goal.invariant_of-self
invariant_of-self c =
    let inside = c.self.inside in
    next_is inside.tree.now.entries (inside.index + 1) inside.rest c.next-self-inside.new.self c.next-self-inside.result
    c.self.invariant.1 c.next-self-inside.ensures.steps
