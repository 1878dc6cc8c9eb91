use Rattle.std.proofs.Common.{◌∙◌}
use Rattle.oracle.proofs.OrderedMapLemmas.{insert_entry-put}
use Rattle.oracle.proofs.map.put.Goals as goal

pub returns-clause-ok : goal.returns-clause-ok
returns-clause-ok g c = c.in_ok-insert.ensures.entries ∙ insert_entry-put g.K.Ord.cmp c.args.map.now.entries c.args.key c.args.value
