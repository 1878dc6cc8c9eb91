use Rattle.std.proofs.Common.{◌∷◌, ◌∙◌, [], subst}
use Rattle.pdtcli.specs.Records.{TakesFields}
use Rattle.pdtcli.proofs.RecordsLemmas.{TakesFields-one}
use Rattle.pdtcli.proofs.records.Records.push_field.Goals.{in-Ok, in-Err}
use Rattle.pdtcli.proofs.records.Records.push_field.Goals as goal

pub returns : goal.returns
returns c = elim c.match-write_field.branch [
  | in-Ok w ↦ rw w.result-is
      (let e = w.in-Ok.ensures in
      subst (λ z. TakesFields z c.write_field.new.self (c.args.field.now ∷ [])) (c.as_mut.ensures.value ∙ c.self.view_is)
      (TakesFields-one c.as_mut.result.now c.write_field.new.self c.args.field.now e.text e.same e.count e.wrote e.stays))
  | in-Err w ↦ rw w.result-is tt
]
