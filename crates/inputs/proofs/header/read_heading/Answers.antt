use Rattle.std.proofs.Common.{◌∙◌, sym, refl}
use Rattle.inputs.proofs.HeaderLemmas.{take-rest}
use Rattle.inputs.proofs.header.read_heading.Goals as goal

pub returns-in-None : goal.returns-in-None
returns-in-None c = rw (sym c.first_colon.ensures.first ∙ c.in-None.is) refl

pub returns-in-None-read_kind : goal.returns-in-None-read_kind
returns-in-None-read_kind c =
    let kind = rw take-rest at (sym c.read_kind.ensures ∙ c.in-None-read_kind.is) in
    rw (sym c.first_colon.ensures.first ∙ c.in-Some.is) (rw kind refl)

pub returns : goal.returns
returns c =
    let kind = rw take-rest at (sym c.read_kind.ensures ∙ c.in-Some-read_kind.is) in
    rw (sym c.first_colon.ensures.first ∙ c.in-Some.is) (rw kind c.name_heading.ensures)
