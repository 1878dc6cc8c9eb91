use Rattle.std.proofs.Common.{subst}
use Rattle.publishing.specs.Lists.{IsListed}
use Rattle.shared.specs.Stands.{Stand}
use Rattle.shared.proofs.locked.Locked.manager.Goals as goal

pub returns-clause-listed : goal.returns-clause-listed
returns-clause-listed g c = subst (λ (s : Stand). IsListed g.O.Opening.opened.manager s.list s.manager) c.self.view_is c.self.invariant.0
