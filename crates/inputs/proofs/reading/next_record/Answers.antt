use Rattle.inputs.proofs.ReadLemmas.{reads-one}
use Rattle.inputs.proofs.reading.next_record.Goals as goal

pub returns-in-Ok : goal.returns-in-Ok
returns-in-Ok c =
    λ text read h. reads-one text read _ _ _ _ h (c.in-Ok.ensures.ready h.plain) c.in-Ok.ensures.flexible
    (c.in-Ok.ensures.reads h.plain h.ready)
