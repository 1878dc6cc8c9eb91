use Rattle.codec.proofs.CommitLemmas.{commit_entries_fit}
use Rattle.codec.proofs.laws.commit_entries_fit.Goals as goal

pub returns : goal.returns
returns c = commit_entries_fit
