use Rattle.std.proofs.Common.{◌≡◌, ◌∙◌, Option, Some, ap, subst, sym}
use Rattle.std.specs.Prelude.{IfSome}
use Rattle.journal.specs.Header.{HeaderFields}
use Rattle.journal_steps.specs.Progress.{Progress, header_from, reopened}
use Rattle.pdt_c.specs.Steps.{Journaling}
use Rattle.pdt_c.proofs.StepLemmas.{header_is}
use Rattle.pdt_c.proofs.calls.steps.pdtr_journal_open.Goals as goal

pub returns-in-Ok-clause-done : goal.returns-in-Ok-clause-done
returns-in-Ok-clause-done c = λ done.
    let a = c.args in
    let header = header_is a.salt a.name a.base c.in-Some.header (sym c.new.ensures ∙ c.in-Some.is) in
    let opened = λ (h : HeaderFields). reopened h a.newest a.first_file a.file in
    let step : opened (header_from a.salt a.name a.base) ≡ Some c.in-Ok.opened.value.progress =
    ap opened header ∙ sym c.new-2.ensures ∙ c.in-Some-new.is ∙ ap (λ (j : Journaling). Some j.progress) (sym c.in-Ok.ensures.ok) in
    subst (λ (o : Option Journaling). IfSome o (λ j. opened (header_from a.salt a.name a.base) ≡ Some j.progress)) (sym c.put.ensures) step
