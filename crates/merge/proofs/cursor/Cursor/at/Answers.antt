use Rattle.merge.specs.Cursor.{TreeCursor}
use Rattle.merge.proofs.PlaceLemmas.{walk_found}
use Rattle.merge.proofs.cursor.Cursor.at.Goals as goal
use Rattle.delta.proofs.CallerLemmas.{next_is}

pub invariant_of-result : goal.invariant_of-result
invariant_of-result c =
    let walk = c.find_walk-index.result in
    let next = c.next-next in
    next_is c.args.tree.now.entries walk.index walk.entries next.new.self next.result c.find_walk-index.ensures.rest next.ensures.steps

pub returns-clause-at : goal.returns-clause-at
returns-clause-at c = λ base over lawful small low.
    let walk = c.find_walk-index.result in
    let new : TreeCursor = record { tree = c.args.tree.now; index = walk.index; sid = walk.sid } in
    walk_found base new c.args.rid over lawful small low c.find_walk-index.ensures.walk

pub returns-clause-inside : goal.returns-clause-inside
returns-clause-inside c = c.find_walk-index.ensures.walk.within
