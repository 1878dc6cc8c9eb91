use Rattle.std.proofs.Common.{◌≡◌, ◌∙◌, ◌++◌, ◌-◌, ℕ, List, length, drop, ap, arith}
use Rattle.std.proofs.lemmas.List.{drop-append-le, length-append}
use Rattle.journal_steps.specs.Batch.{payload_in}
use Rattle.pdt_c.specs.Journals.{IsAppended}
use Rattle.pdt_c.specs.Steps.{Journaling}
use Rattle.manager.specs.Prepared.{tree_in}
use Rattle.pdt_c.proofs.calls.steps.stage.Goals as goal

pub returns-in-Ok-write_decided-clause-ok : goal.returns-in-Ok-write_decided-clause-ok
returns-in-Ok-write_decided-clause-ok c =
    let frame = c.in-Ok.frame.items in
    let out = c.write_decided.new.out.items in
    let appended : IsAppended c.args.manager.now.schema c.args.table (tree_in c.args.prepared.now) frame out = c.in-Ok-write_decided.ensures.ok in
    let part = appended.0 in
    let behind : payload_in out ≡ c.args.opened.now.parts ++ part =
    ap payload_in appended.2 ∙ drop-append-le 28 frame part c.in-Ok.ensures.room ∙ ap (λ (b : List ℕ). b ++ part) c.in-Ok.ensures.parts in
    let same = ap (λ (j : Journaling). j.progress) (c.opened.view_is ∙ c.take_draft.ensures.taken) in (
      part,
      appended.1,
      (λ i. record { progress = same i; parts = behind i }),
      omega (arith, c.len.ensures, c.len-before.ensures, ap length appended.2, length-append frame part),
    )
