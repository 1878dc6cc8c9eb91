use Rattle.std.proofs.Common.{ap, ◌∙◌}
use Rattle.model.specs.Table.{Table, row_at}
use Rattle.txn.proofs.transaction.Txn.get.Goals as goal

pub returns : goal.returns
returns c = c.get.ensures ∙ ap (λ (t : Table). row_at t c.args.key.now) c.layers.ensures.table
