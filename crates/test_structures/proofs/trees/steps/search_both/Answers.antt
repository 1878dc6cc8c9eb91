use Rattle.std.proofs.Common.{length, arith}
use Rattle.test_structures.proofs.DepthLemmas.{depth_is_two}
use Rattle.test_structures.proofs.trees.steps.search_both.Goals as goal

pub returns-clause-levels : goal.returns-clause-levels
returns-clause-levels g c = depth_is_two c.depth.result (length c.args.tree.now.entries) c.requires.more c.requires.fewer c.depth.ensures

pub returns-clause-steps : goal.returns-clause-steps
returns-clause-steps g c =
    let count = length c.args.tree.now.entries in
    let levels = depth_is_two c.depth.result count c.requires.more c.requires.fewer c.depth.ensures in
    let first = c.shift_before-shift.ensures.steps in
    let second = c.find_rid-place.ensures.steps in
    let one = depth_is_two first.0 count c.requires.more c.requires.fewer first.2 in
    let two = depth_is_two second.0 count c.requires.more c.requires.fewer second.2 in
    omega (arith, first.1, second.1)
