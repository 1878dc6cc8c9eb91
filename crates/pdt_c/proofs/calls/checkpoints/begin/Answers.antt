use Rattle.std.proofs.Common.{ap, sym, ◌∙◌}
use Rattle.manager.specs.Managed.{Managed}
use Rattle.manager.specs.Pinned.{Pinned}
use Rattle.manager.specs.Restacked.{stable_below, stable_of}
use Rattle.manager.proofs.CallerLemmas.{stable_of-folded}
use Rattle.pdt_c.proofs.calls.checkpoints.begin.Goals as goal

pub returns-clause-below : goal.returns-clause-below
returns-clause-below c =
    ap (λ (p : Pinned). stable_of p.version) (c.in_ok-boxed.ensures.ok ∙ c.in_ok-shared.ensures.pinned)
    ∙ stable_of-folded _ c.in_ok-folded.folded c.in_ok-folded.ensures
    ∙ sym (ap (λ (m : Managed). stable_below m.layers) c.install_fold.ensures)
