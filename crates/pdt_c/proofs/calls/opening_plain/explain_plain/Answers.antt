use Rattle.std.proofs.Common.{◌∙◌, List, subst}
use Rattle.values.specs.declared.value.ColumnType.{ColumnType}
use Rattle.sentences.specs.Tables.{table_sentence}
use Rattle.pdt_c.specs.Told.{IsPut}
use Rattle.pdt_c.proofs.calls.opening_plain.explain_plain.Goals as goal

pub returns-in-Ok : goal.returns-in-Ok
returns-in-Ok c =
    rw c.in-Table.is (λ some.
    let told = c.explain.ensures some in (
      told.0,
      λ records g.
          subst
          (λ (types : List ColumnType). IsPut c.explain.result c.explain.new.sentence (table_sentence types told.0 records c.in-Table.first))
          (c.as_slice.ensures.value ∙ c.in-Ok.ensures records g) (told.1 records g),
    ))
