use Rattle.std.proofs.Common.{ap, ◌∙◌}
use Rattle.manager.specs.Pinned.{Pinned, begun_over}
use Rattle.pdt_c.proofs.calls.pins.pin_newest.Goals as goal

pub returns-clause-begins : goal.returns-clause-begins
returns-clause-begins c =
    λ client. ap (λ (p : Pinned). begun_over p client) c.in_ok-new.ensures.ok ∙ c.in_ok-made.ensures.begins client
