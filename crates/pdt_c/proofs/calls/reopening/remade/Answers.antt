use Rattle.std.proofs.Common.{◌≡◌, ◌∙◌, ℕ, sym, subst}
use Rattle.pdt_c.specs.Reopening.{IsRemadeOf, IsUnder, IsUnmade}
use Rattle.pdt_c.specs.declared.calls.reopening.Reopening.{Reopening}
use Rattle.pdt_c.proofs.ReopeningLemmas.{counting, ok_then, remade_of, under_of, unmade_of}
use Rattle.pdt_c.proofs.calls.reopening.remade.Goals as goal

pub returns-in-Ok-clause-ok : goal.returns-in-Ok-clause-ok
returns-in-Ok-clause-ok c =
    let image = c.args.image in
    let read = c.args.read.now in
    let m = c.in-Ok.recovered.manager in
    let found = c.in-Ok.ensures in
    ok_then (λ (r : Reopening). (r.manager.value ≡ counting m) × (r.whole ≡ c.in-Ok.recovered.whole))
    (λ (r : Reopening). IsRemadeOf image.table image.number c.args.table read.seed read.base read.bytes r.whole r.manager.value)
    (λ r h. remade_of image.table image.number c.args.table read.seed read.base read.bytes r.whole m r.manager.value
    found.schema found.rows found.number found.newest (h.1 ∙ found.whole) found.ending found.reached found.read found.prefix h.0)
    c.counting.result c.counting.ensures.ok

pub returns-in-Ok-clause-under : goal.returns-in-Ok-clause-under
returns-in-Ok-clause-under c =
    let limits = c.args.limits in
    let m = c.in-Ok.recovered.manager in
    ok_then (λ (r : Reopening). (r.manager.value ≡ counting m) × (r.whole ≡ c.in-Ok.recovered.whole))
    (λ (r : Reopening). IsUnder limits.row_limit limits.recent limits.conflicts r.manager.value)
    (λ r h. under_of limits.row_limit limits.recent limits.conflicts m r.manager.value c.in-Ok.ensures.limits h.0)
    c.counting.result c.counting.ensures.ok

pub returns-in-Err-clause-err : goal.returns-in-Err-clause-err
returns-in-Err-clause-err c =
    let image = c.args.image in
    let read = c.args.read.now in
    let limits = c.args.limits in
    let found = c.in-Err.ensures in
    let is = c.code_of_recovery-code.ensures in
    subst (λ (t : ℕ × ℕ). IsUnmade image.table limits.row_limit limits.recent image.number c.args.table read.seed read.base read.bytes t.0 t.1)
    (sym is)
    (unmade_of image.table limits.row_limit limits.recent image.number c.args.table read.seed read.base read.bytes c.in-Err.fault
    found.fault found.caused found.named found.sound)
