use Rattle.std.proofs.Common.{◌∙◌, List, ◌++◌, length, sym, ap, arith}
use Rattle.std.proofs.lemmas.List.{append-nil}
use Rattle.model.specs.declared.entry.Entry.{Entry}
use Rattle.merge.specs.Packed.{row_changes_from}
use Rattle.merge.specs.declared.packed.RowChange.{RowChange}
use Rattle.merge.proofs.packed.row_changes.Goals as goal

pub loop-entry-init : goal.loop-entry-init
loop-entry-init c =
    let all = c.into_iter-entry-iterator.ensures.into_iter_gives ∙ c.iter-entry-items.ensures.all in
    let few = ap (λ (es : List Entry). length es) all in (
      ap (λ (cs : List RowChange). cs ++ row_changes_from 0 0 c.into_iter-entry-iterator.result) c.new-changes.ensures.items
          ∙ ap (row_changes_from 0 0) all,
      omega (arith, few, c.iter-entry-items.ensures.lawful.counted),
      omega (arith, few, c.iter-entry-items.ensures.lawful.counted),
    )

pub rows_after-rows-requires : goal.rows_after-rows-requires
rows_after-rows-requires c =
    omega (arith, c.loop-entry.invariant.1, ap (λ (es : List Entry). length es) c.in-Some.ensures.steps)

pub returns : goal.returns
returns c =
    let changes = c.loop-entry.changes.items in
    sym (append-nil changes)
    ∙ ap (λ (es : List Entry). changes ++ row_changes_from c.loop-entry.rows c.loop-entry.place es) (sym c.in-None.ensures.steps.0)
    ∙ c.loop-entry.invariant.0
