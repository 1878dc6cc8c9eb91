use Rattle.std.proofs.Common.{◌++◌, ◌∙◌, pos, ap, sym, arith}
use Rattle.std.proofs.lemmas.List.{take-replicate, append-nil}
use Rattle.blocks.specs.Ints.{zeros_of}
use Rattle.blocks.proofs.ints.Ints.as_slice.Goals as goal

-- zeros alone
pub returns-else-self-eq0 : goal.returns-else-self-eq0
returns-else-self-eq0 c =
    let zeros = c.self.inside.zeros in
    let none = c.self.invariant.one (omega (arith, c.if-self-eq0.false)) in
    take-replicate zeros 1024 (pos 0) (omega (arith, c.self.invariant.few))
    ∙ sym (ap (λ given. zeros_of zeros ++ given) none ∙ append-nil (zeros_of zeros))
    ∙ c.self.view_is
