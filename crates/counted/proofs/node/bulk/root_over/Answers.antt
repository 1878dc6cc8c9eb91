use Rattle.std.proofs.Common.{suc, ◌∙◌, arith}
use Rattle.counted.specs.Shapes.{depth_of}
use Rattle.counted.proofs.BulkLemmas.{level_of}
use Rattle.counted.proofs.node.bulk.root_over.Goals as goal

pub loop-alloc-init : goal.loop-alloc-init
loop-alloc-init c =
    let some = c.in_ok-level.ensures.some in
    record {
      some = c.in_ok-level.ensures.some;
      items = c.in_ok-level.ensures.items;
      each = level_of 1 c.in_ok-level.level.items c.in_ok-level.ensures.each (omega arith);
    }

pub loop-alloc-preserved : goal.loop-alloc-preserved
loop-alloc-preserved c =
    let some = c.in_ok-level-2.ensures.some in
    record {
      some = c.in_ok-level-2.ensures.some;
      items = c.in_ok-level-2.ensures.items ∙ c.loop-alloc.invariant.items;
      each = level_of (suc (depth_of c.loop-alloc.level.items)) c.in_ok-level-2.level.items c.in_ok-level-2.ensures.each (omega arith);
    }
