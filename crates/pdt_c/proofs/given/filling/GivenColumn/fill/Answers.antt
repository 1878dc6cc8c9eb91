use Rattle.std.proofs.Common.{◌∙◌, ◌+◌, length, map, ap, Some}
use Rattle.std.proofs.lemmas.List.{length_push}
use Rattle.values.specs.Lent.{value_of}
use Rattle.values.specs.declared.value.Value.{Value}
use Rattle.blocks.specs.Column.{Column}
use Rattle.pdt_c.proofs.FillingLemmas.{first_more}
use Rattle.pdt_c.proofs.given.filling.GivenColumn.fill.Goals as goal

pub loop-row-preserved : goal.loop-row-preserved
loop-row-preserved c =
    let so_far = c.loop-row.invariant in
    let values = c.loop-row.column.values in
    let value = value_of c.in-Some.value in
    let pushed = c.in_ok-push-in-Some.ensures.ok in (
      ap (λ (x : Column). x.ty) pushed ∙ so_far.0,
      ap (λ (x : Column). length x.values) pushed ∙ length_push values value ∙ ap (λ n. n + 1) so_far.1,
      ap (λ (x : Column). map (λ (v : Value). Some v) x.values) pushed
          ∙ first_more c.args.ty c.args.self.now c.loop-row.row values value so_far.2 c.in-Some.ensures.value,
    )
