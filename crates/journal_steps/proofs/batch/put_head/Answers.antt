use Rattle.std.proofs.Common.{◌≡◌, ◌∙◌, ap, drop, length, List, ℕ, arith}
use Rattle.journal.specs.Frame.{frame_bytes}
use Rattle.journal_steps.proofs.BatchLemmas.{filled}
use Rattle.journal_steps.proofs.batch.put_head.Goals as goal

pub returns : goal.returns
returns c =
    let items = c.args.frame.now.items in
    let spelt = λ (b : List ℕ). frame_bytes c.args.seed (record { number = c.args.number; synced = c.args.durable; payload = b }) in
    let behind : c.split_at_mut-head.result.1.now ≡ drop 28 items = c.split_at_mut-head.ensures.back ∙ ap (drop 28) c.as_mut_slice.ensures.value in
    filled c.args.frame.now.len items c.copy_from_slice.new.self c.frame_head.result c.split_at_mut-head.result.1.now (spelt (drop 28 items))
    (omega arith) c.copy_from_slice.ensures.after c.frame_head.ensures.length c.requires.room behind
    (c.frame_head.ensures.frame ∙ ap spelt behind)
