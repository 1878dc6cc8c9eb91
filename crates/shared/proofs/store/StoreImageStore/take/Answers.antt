use Rattle.shared.proofs.GenerationLemmas.{taken_answers, refused_answers}
use Rattle.shared.proofs.store.StoreImageStore.take.Goals as goal

pub returns-in-Ok-clause-answer : goal.returns-in-Ok-clause-answer
returns-in-Ok-clause-answer g c = taken_answers c.table.result.now _ _ _ c.in-Ok.ensures.answer

pub returns-in-Err-clause-answer : goal.returns-in-Err-clause-answer
returns-in-Err-clause-answer g c = refused_answers _ _ _ _ _ c.of_store.ensures c.in-Err.ensures.answer
