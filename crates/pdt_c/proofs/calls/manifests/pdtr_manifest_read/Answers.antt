use Rattle.pdt_c.proofs.calls.manifests.pdtr_manifest_read.Goals as goal

pub returns-in-Ok-new-clause-done : goal.returns-in-Ok-new-clause-done
returns-in-Ok-new-clause-done c = λ done. rw (c.put.ensures, c.in-Ok-new.ensures.ok, c.in-Ok-of.ensures) c.in-Ok.ensures.spelt
