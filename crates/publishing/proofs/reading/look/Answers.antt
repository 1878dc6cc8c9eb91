use Rattle.publishing.proofs.Steps.{sees, begins_self}
use Rattle.publishing.proofs.reading.look.Goals as goal

pub enter_as-requires : goal.enter_as-requires
enter_as-requires c x = sees _ _ x x (begins_self x)
