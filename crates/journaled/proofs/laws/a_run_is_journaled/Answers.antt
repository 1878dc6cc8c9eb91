use Rattle.journaled.proofs.JournalLemmas.{run_is_journaled}
use Rattle.journaled.proofs.laws.a_run_is_journaled.Goals as goal

pub returns : goal.returns
returns c = run_is_journaled c.a_commit_is_journaled.ensures
