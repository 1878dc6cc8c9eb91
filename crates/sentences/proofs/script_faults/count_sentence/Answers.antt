use Rattle.sentences.proofs.script_faults.count_sentence.Goals as goal

pub returns : goal.returns
returns c =
    let word = rw c.in-Some.is at c.get.ensures.value in
    rw (← word, ← c.len.ensures) c.word_count_sentence.ensures
