use Rattle.std.proofs.Common.{◌≡◌, Bool, sym, ◌∙◌, subst}
use Rattle.std.specs.Prelude.{MatchBool}
use Rattle.shared.proofs.store.exchange.Goals as goal

pub returns-then-are_same : goal.returns-then-are_same
returns-then-are_same g c =
    let held = c.schema.result.now in
    let columns = c.args.columns.now in
    let same = subst (λ (b : Bool). MatchBool b (held ≡ columns) (held ≡ columns → ⊥)) c.if-are_same.true c.are_same.ensures in
    (c.replace.ensures.value, c.replace.ensures.after, sym c.schema.ensures ∙ same)
