use Rattle.std.proofs.Common.{ap, sym, ◌∙◌}
use Rattle.std.specs.Prelude.{Some}
use Rattle.std.specs.Option.{option_map}
use Rattle.std.proofs.lemmas.Option.{slice_get-get_or}
use Rattle.counted.specs.Leads.{lead_of}
use Rattle.counted.proofs.spot.lead_or.Goals as goal

pub returns-then-at-entries-clause-lead : goal.returns-then-at-entries-clause-lead
returns-then-at-entries-clause-lead c = λ lt.
    ap Some (c.lead.ensures ∙ ap lead_of c.index-entries-at.is)
    ∙ sym (ap (option_map lead_of) (slice_get-get_or c.args.entries.now c.args.at c.index-entries-at.result lt))
