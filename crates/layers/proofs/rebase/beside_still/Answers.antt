use Rattle.std.proofs.Common.{sym, ◌∙◌, subst, arith}
use Rattle.model.specs.declared.clash.Clash.{Clash}
use Rattle.model.specs.Rebasing.{IsLeastClash}
use Rattle.layers.specs.Over.{AreAligned}
use Rattle.layers.proofs.SerialLemmas.{unconflicting, rebased_is}
use Rattle.layers.proofs.TurnedLemmas.{first_clash-turns, no_clash-turns}
use Rattle.layers.proofs.rebase.beside_still.Goals as goal
use Rattle.std.proofs.lemmas.Grind.{common_steps}

pub returns-in-Some : goal.returns-in-Some
returns-in-Some c =
    let x = c.args.x.now in
    let y = c.args.y.now in
    let found = sym c.first_clash.ensures ∙ c.in-Some.is in
    λ (w : AreAligned x y).
    let both = first_clash-turns c.args.rule x y w c.in-Some.clash found in
    (both.0, subst (λ (k : Clash). IsLeastClash c.args.rule w.schema.key_cols x.entries y.entries k) (sym c.turned.ensures) both.1)

pub returns-in_ok-copy-in-None : goal.returns-in_ok-copy-in-None
returns-in_ok-copy-in-None c = grind (arith, common_steps, c.first_clash.ensures, c.in-None.is, c.requires.still, c.in_ok-copy-in-None.ensures, no_clash-turns, unconflicting, rebased_is)
