use Rattle.std.proofs.Common.{sym, ◌∙◌, ap, ◌∷◌, [], List, ℕ}
use Rattle.std.proofs.lemmas.Slice.Eq.{bytes_eq-Decides}
use Rattle.blocks.proofs.CopiesLemmas.{one_alone}
use Rattle.blocks.proofs.texts.is_one.Goals as goal

pub returns-then-len-eq1 : goal.returns-then-len-eq1
returns-then-len-eq1 c = λ same.
    one_alone c.args.given.now c.get.result.now (sym c.len.ensures.len ∙ c.if-len-eq1.true) c.get.ensures.text
    ∙ ap (λ (text : List ℕ). text ∷ []) ((bytes_eq-Decides c.get.result.now c.args.text.now).0 (sym c.eq.ensures ∙ same))
