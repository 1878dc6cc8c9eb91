use Rattle.std.proofs.Common.{◌+◌, [], ap, ◌∙◌, arith}
use Rattle.counted.specs.Edits.{edited}
use Rattle.counted.proofs.Runs.{run_step}
use Rattle.counted.proofs.tree.CountedTree.replace_shared.Goals as goal

pub loop-preserved : goal.loop-preserved
loop-preserved c = record {
  low = omega arith;
  high = omega arith;
  items =
      c.in_ok-edit-2.ensures.ok ∙ ap (edited (c.args.start + 1) 1 []) c.loop.invariant.items
      ∙ run_step c.args.self.now.entries c.args.start c.loop.counter c.args.entry (omega arith);
}
