use Rattle.shared.proofs.RepliesLemmas.{begins_after}
use Rattle.shared.proofs.laws.begins_after_its_commits.Goals as goal

pub returns : goal.returns
returns c o before after later txn n client = begins_after o before after later txn n
