use Rattle.std.proofs.Common.{arith}
use Rattle.merge.specs.Image.{stack_of, read_rows, write_rows}
use Rattle.merge.proofs.ReachLemmas.{length-merged_rows}
use Rattle.merge.proofs.StackLemmas.{are_levels}
use Rattle.merge.proofs.layers.Layers.new.Goals as goal

pub grown-under_read-requires-clause-enough : goal.grown-under_read-requires-clause-enough
grown-under_read-requires-clause-enough c =
    let s = stack_of c.args.stable.now c.args.read.now c.args.write.now c.args.trans.now in
    let levels = are_levels c.args.stable.now c.args.read.now c.args.write.now c.args.trans.now c.requires in
    omega (arith, c.len.ensures.count, length-merged_rows s.schema.key_cols s.rows s.read levels.lower)

pub grown-under_write-requires-clause-enough : goal.grown-under_write-requires-clause-enough
grown-under_write-requires-clause-enough c =
    let s = stack_of c.args.stable.now c.args.read.now c.args.write.now c.args.trans.now in
    let levels = are_levels c.args.stable.now c.args.read.now c.args.write.now c.args.trans.now c.requires in
    omega (
      arith,
      c.len.ensures.count,
      c.grown-under_read.ensures.sum,
      length-merged_rows s.schema.key_cols s.rows s.read levels.lower,
      length-merged_rows s.schema.key_cols (read_rows s) s.write levels.middle,
    )

pub grown-requires-clause-enough : goal.grown-requires-clause-enough
grown-requires-clause-enough c =
    let s = stack_of c.args.stable.now c.args.read.now c.args.write.now c.args.trans.now in
    let levels = are_levels c.args.stable.now c.args.read.now c.args.write.now c.args.trans.now c.requires in
    omega (
      arith,
      c.len.ensures.count,
      c.grown-under_read.ensures.sum,
      c.grown-under_write.ensures.sum,
      length-merged_rows s.schema.key_cols s.rows s.read levels.lower,
      length-merged_rows s.schema.key_cols (read_rows s) s.write levels.middle,
      length-merged_rows s.schema.key_cols (write_rows s) s.trans levels.upper,
    )

pub invariant_of-result : goal.invariant_of-result
invariant_of-result c =
    let s = stack_of c.args.stable.now c.args.read.now c.args.write.now c.args.trans.now in
    let levels = are_levels c.args.stable.now c.args.read.now c.args.write.now c.args.trans.now c.requires in
    let first = length-merged_rows s.schema.key_cols s.rows s.read levels.lower in
    let second = length-merged_rows s.schema.key_cols (read_rows s) s.write levels.middle in
    let third = length-merged_rows s.schema.key_cols (write_rows s) s.trans levels.upper in
    let few = c.len.ensures.lawful.few in
    record {
      stacked = c.requires;
      read_lawful = c.grown-under_read.ensures.lawful;
      write_lawful = c.grown-under_write.ensures.lawful;
      trans_lawful = c.grown.ensures.lawful;
      few = few;
      read_few = omega (arith, few, first, c.len.ensures.count, c.grown-under_read.ensures.sum, c.grown-under_read.ensures.most);
      write_few =
          omega (
            arith,
            few,
            first,
            second,
            c.len.ensures.count,
            c.grown-under_read.ensures.sum,
            c.grown-under_read.ensures.most,
            c.grown-under_write.ensures.sum,
            c.grown-under_write.ensures.most,
          );
      image_few =
          omega (
            arith,
            few,
            c.len.ensures.count,
            c.grown-under_read.ensures.most,
            c.grown-under_write.ensures.most,
            c.grown.ensures.most,
          );
      counted =
          omega (
            arith,
            first,
            second,
            third,
            c.len.ensures.count,
            c.grown-under_read.ensures.sum,
            c.grown-under_write.ensures.sum,
            c.grown.ensures.sum,
          );
    }
