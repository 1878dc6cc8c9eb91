use Rattle.std.proofs.Common.{arith}
use Rattle.delta.proofs.CallerLemmas.{length-put_mod}
use Rattle.test_codec.proofs.trees.put_mod.Goals as goal

pub put_mod-requires-clause-room : goal.put_mod-requires-clause-room
put_mod-requires-clause-room g c =
    omega
    (arith, c.len.ensures, length-put_mod c.args.tree.now.key_cols c.args.sid c.args.col c.args.value c.args.tree.now.entries)
