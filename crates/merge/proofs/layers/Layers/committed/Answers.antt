use Rattle.std.proofs.Common.{None, length, ap, arith}
use Rattle.merge.specs.Image.{stack_of, tree_over, read_rows}
use Rattle.merge.proofs.ReachLemmas.{length-merged_rows}
use Rattle.merge.proofs.StackLemmas.{are_levels, none_stacked, image_rows-none, nothing_lawful}
use Rattle.merge.proofs.layers.Layers.committed.Goals as goal

pub grown-under_read-requires-clause-enough : goal.grown-under_read-requires-clause-enough
grown-under_read-requires-clause-enough c =
    let none = tree_over c.args.stable.now.schema.key_cols None in
    let s = stack_of c.args.stable.now c.args.read.now c.args.write.now none in
    let levels =
    are_levels c.args.stable.now c.args.read.now c.args.write.now none
    (none_stacked c.args.stable.now c.args.read.now c.args.write.now c.requires) in
    omega (arith, c.len.ensures.count, length-merged_rows s.schema.key_cols s.rows s.read levels.lower)

pub grown-requires-clause-enough : goal.grown-requires-clause-enough
grown-requires-clause-enough c =
    let none = tree_over c.args.stable.now.schema.key_cols None in
    let s = stack_of c.args.stable.now c.args.read.now c.args.write.now none in
    let levels =
    are_levels c.args.stable.now c.args.read.now c.args.write.now none
    (none_stacked c.args.stable.now c.args.read.now c.args.write.now c.requires) in
    omega (
      arith,
      c.len.ensures.count,
      c.grown-under_read.ensures.sum,
      length-merged_rows s.schema.key_cols s.rows s.read levels.lower,
      length-merged_rows s.schema.key_cols (read_rows s) s.write levels.middle,
    )

pub invariant_of-result : goal.invariant_of-result
invariant_of-result c =
    let none = tree_over c.args.stable.now.schema.key_cols None in
    let s = stack_of c.args.stable.now c.args.read.now c.args.write.now none in
    let stacked = none_stacked c.args.stable.now c.args.read.now c.args.write.now c.requires in
    let levels = are_levels c.args.stable.now c.args.read.now c.args.write.now none stacked in
    let first = length-merged_rows s.schema.key_cols s.rows s.read levels.lower in
    let second = length-merged_rows s.schema.key_cols (read_rows s) s.write levels.middle in
    let third = ap (λ rows. length rows) (image_rows-none c.args.stable.now c.args.read.now c.args.write.now) in
    let few = c.len.ensures.lawful.few in
    record {
      stacked = stacked;
      read_lawful = c.grown-under_read.ensures.lawful;
      write_lawful = c.grown.ensures.lawful;
      trans_lawful = nothing_lawful c.args.stable.now.schema.key_cols;
      few = few;
      read_few = omega (arith, few, first, c.len.ensures.count, c.grown-under_read.ensures.sum, c.grown-under_read.ensures.most);
      write_few =
          omega (
            arith,
            few,
            first,
            second,
            c.len.ensures.count,
            c.grown-under_read.ensures.sum,
            c.grown-under_read.ensures.most,
            c.grown.ensures.sum,
            c.grown.ensures.most,
          );
      image_few = omega (arith, few, c.len.ensures.count, c.grown-under_read.ensures.most, c.grown.ensures.most);
      counted = omega (arith, first, second, third, c.len.ensures.count, c.grown-under_read.ensures.sum, c.grown.ensures.sum);
    }
