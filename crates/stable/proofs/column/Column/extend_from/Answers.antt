use Rattle.std.proofs.Common.{◌+◌, ◌*◌, ◌/◌, length, drop, ap, arith}
use Rattle.std.proofs.lemmas.List.{length-drop, length-take}
use Rattle.blocks.specs.Column.{Column}
use Rattle.stable.proofs.RunLemmas.{run_more}
use Rattle.stable.proofs.column.Column.extend_from.Goals as goal
use Rattle.std.proofs.lemmas.Grind.{common_steps}

pub push_run-requires-clause-within : goal.push_run-requires-clause-within
push_run-requires-clause-within c =
    let begin = 1024 * ((c.args.from + c.loop-moved.moved) / 1024) in
    omega (
      arith,
      c.requires.within,
      c.run_len-run.ensures.left,
      c.run_len-run.ensures.there,
      c.loop-moved-test.true,
      ap (λ (b : Column). length b.values) c.block.ensures,
      length-take 1024 (drop begin c.args.other.now.values),
      length-drop begin c.args.other.now.values,
    )

pub loop-moved-preserved : goal.loop-moved-preserved
loop-moved-preserved c = grind (arith, common_steps, c.run_len-run.ensures.left, c.loop-moved-test.true, c.in_ok-push_run.ensures.ok, c.loop-moved.invariant.shows, c.block.ensures, c.run_len-run.ensures.there, run_more)
