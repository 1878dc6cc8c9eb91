use Rattle.std.proofs.Common.{is_some, ap, ◌∙◌}
use Rattle.model.specs.Table.{Table, rank, row_at}
use Rattle.txn.proofs.version.Base.locate.Goals as goal

pub returns-clause-rank : goal.returns-clause-rank
returns-clause-rank c = c.locate.ensures.rank ∙ ap (rank c.args.key.now) c.image.ensures.table

pub returns-clause-there : goal.returns-clause-there
returns-clause-there c = c.locate.ensures.there ∙ ap (λ (t : Table). is_some (row_at t c.args.key.now)) c.image.ensures.table
