use Rattle.journal_steps.proofs.StartLemmas.{the_world_does_what_is_told}
use Rattle.journal_steps.proofs.laws.the_world_does_what_is_told.Goals as goal

pub returns : goal.returns
returns c = the_world_does_what_is_told
