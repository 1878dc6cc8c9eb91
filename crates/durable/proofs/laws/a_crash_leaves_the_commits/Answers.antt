use Rattle.durable.proofs.JournaledLemmas.{a_crash_leaves_the_commits}
use Rattle.durable.proofs.laws.a_crash_leaves_the_commits.Goals as goal

pub returns : goal.returns
returns c = a_crash_leaves_the_commits
