use Rattle.model.proofs.AllLaws.{commits_fit}
use Rattle.model.proofs.laws.legal_commits_fit.Goals as goal

pub returns : goal.returns
returns c = commits_fit
