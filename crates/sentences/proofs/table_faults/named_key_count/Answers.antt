use Rattle.sentences.proofs.table_faults.named_key_count.Goals as goal

pub returns : goal.returns
returns c =
    let columns = rw c.key_count.ensures at c.in_ok-columns.ensures in
    let made = rw columns at c.in_ok-format.ensures.ok in
    made
