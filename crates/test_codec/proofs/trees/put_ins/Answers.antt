use Rattle.std.proofs.Common.{arith}
use Rattle.delta.proofs.CallerLemmas.{length-put_ins}
use Rattle.test_codec.proofs.trees.put_ins.Goals as goal

pub put_ins-requires-clause-room : goal.put_ins-requires-clause-room
put_ins-requires-clause-room g c =
    omega (arith, c.len.ensures, length-put_ins c.args.tree.now.key_cols c.args.sid c.args.row c.args.tree.now.entries)
