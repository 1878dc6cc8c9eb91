use Rattle.std.proofs.Common.{ap, ◌∙◌}
use Rattle.manifest.specs.Manifest.{spelling}
use Rattle.pdt_c.proofs.calls.manifest_bytes.pdtr_manifest_bytes.Goals as goal

pub returns-in-Ok-clause-spelt : goal.returns-in-Ok-clause-spelt
returns-in-Ok-clause-spelt c = λ done.
    rw (c.take-held.ensures.value, c.put-in-Ok.ensures) (c.in-Ok.ensures.spelt ∙ ap spelling c.deref.ensures)
