use Rattle.std.proofs.Common.{◌+◌, sym}
use Rattle.counted.proofs.Leads.{lead_from}
use Rattle.counted.proofs.children.lead_behind.Goals as goal

pub returns-then-index-children-clause-more : goal.returns-then-index-children-clause-more
returns-then-index-children-clause-more c = λ more.
    sym (lead_from c.args.children.now (c.args.index + 1) c.index-children-index.result c.requires.children c.if-index-children.true)
