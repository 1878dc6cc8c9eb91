use Rattle.std.proofs.Common.{◌≡◌, ℕ, Option, ap, sym, ◌∙◌, subst}
use Rattle.std.specs.Prelude.{IfSome}
use Rattle.manager.specs.Managed.{Managed, begun_at}
use Rattle.manager.specs.Pinned.{Pinned, begun_over, pin_of}
use Rattle.pdt_c.proofs.calls.pins.pdtr_pin.Goals as goal

abbrev begins_so : Managed → Type 0
begins_so m = (client : ℕ) → begun_over (pin_of m) client ≡ begun_at m client

pub returns-in-Ok-clause-begins : goal.returns-in-Ok-clause-begins
returns-in-Ok-clause-begins c = λ done.
    subst (λ (o : Option Managed). IfSome o begins_so) (sym c.take-manager.ensures.value)
    (subst begins_so c.deref.ensures
    (λ client. sym (ap (λ (p : Pinned). begun_over p client) c.in-Ok.ensures.pinned) ∙ c.in-Ok.ensures.begins client))
