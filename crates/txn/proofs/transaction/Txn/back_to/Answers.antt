use Rattle.txn.specs.Txn.{transaction_at}
use Rattle.txn.specs.Version.{table_version}
use Rattle.txn.proofs.MarkLemmas.{back_kept}
use Rattle.txn.proofs.transaction.Txn.back_to.Goals as goal

pub invariant_of-self : goal.invariant_of-self
invariant_of-self c =
    let inside = c.self.inside in
    back_kept (transaction_at (table_version inside.version) inside.row_limit inside.client inside.writes.items) c.args.self.now
    c.self.view_is c.self.invariant.0
    (record { count = c.mark.inside.count; tree = c.mark.inside.tree }) c.args.mark c.mark.view_is c.requires
    c.truncate.new.self.items c.truncate.ensures.items
