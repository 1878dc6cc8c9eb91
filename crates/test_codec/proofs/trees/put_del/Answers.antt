use Rattle.std.proofs.Common.{arith}
use Rattle.delta.proofs.CallerLemmas.{length-put_del}
use Rattle.test_codec.proofs.trees.put_del.Goals as goal

pub put_del-requires-clause-room : goal.put_del-requires-clause-room
put_del-requires-clause-room g c =
    omega (arith, c.len.ensures, length-put_del c.args.tree.now.key_cols c.args.sid c.args.key c.args.tree.now.entries)
