use Rattle.std.proofs.Common.{sym, ap, ◌∙◌}
use Rattle.stable.specs.Stable.{build_fault}
use Rattle.stable.proofs.StableLemmas.{is_stable}
use Rattle.stable.proofs.table.StableTable.build.Goals as goal

pub of_rows-requires : goal.of_rows-requires
of_rows-requires c =
    let same = c.as_slice.ensures.value ∙ sym c.as_slice-in-None.ensures.value in
    is_stable c.args.schema c.as_slice-in-None.result.now
    (ap (build_fault c.args.schema) (sym same) ∙ sym c.first_fault.ensures ∙ c.in-None.is)
