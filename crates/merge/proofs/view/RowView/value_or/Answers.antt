use Rattle.std.proofs.Common.{◌∙◌, ap, arith}
use Rattle.std.specs.Prelude.{slice_get}
use Rattle.std.specs.Option.{option_map}
use Rattle.values.specs.Lent.{value_of}
use Rattle.merge.specs.View.{source_row}
use Rattle.merge.proofs.ViewLemmas.{length-row_of, or_else, slice_get-modified}
use Rattle.merge.proofs.view.RowView.value_or.Goals as goal

pub source_value-requires : goal.source_value-requires
source_value-requires c = omega (arith, length-row_of c.args.self.now, c.requires.within)

pub returns-in-Some : goal.returns-in-Some
returns-in-Some c =
    let v = c.args.self.now in
    slice_get-modified v c.args.col _ c.requires.within c.requires.modified
    ∙ ap (λ o. or_else (option_map value_of o) (slice_get (source_row v.source) c.args.col)) c.in-Some.is

pub returns-in-None : goal.returns-in-None
returns-in-None c =
    let v = c.args.self.now in
    slice_get-modified v c.args.col _ c.requires.within c.requires.modified
    ∙ ap (λ o. or_else (option_map value_of o) (slice_get (source_row v.source) c.args.col)) c.in-None.is
    ∙ c.source_value.ensures
