use Rattle.std.proofs.Common.{◌∙◌, ◌<◌, ◌++◌, ◌∷◌, [], length, map, pos, take, get_or, refl, sym, ap, arith, w64, to_z, of_z, rules}
use Rattle.std.specs.Prelude.{ℤ}
use Rattle.std.proofs.lemmas.Int.{to_z-of_z}
use Rattle.std.proofs.lemmas.List.{map-append, take_all, take_more, take_more_set}
use Rattle.blocks.proofs.bits.widen.Goals as goal

pub loop-i-init : goal.loop-i-init
loop-i-init c = refl

pub loop-i-preserved : goal.loop-i-preserved
loop-i-preserved c =
    let i = c.loop-i.i in
    let out = c.loop-i.out in
    let bytes = c.args.bytes.now in
    let within : i < length out = omega (arith, c.requires, c.loop-i-test.true, c.loop-i.auto.out) in
    take_more_set out i (to_z w64 (of_z w64 c.from.result)) within
    ∙ ap (λ ns. ns ++ to_z w64 (of_z w64 c.from.result) ∷ []) c.loop-i.invariant
    ∙ ap (λ (n : ℤ). map pos (take i bytes) ++ n ∷ []) (to_z-of_z w64 c.from.result (search rules) ∙ c.from.ensures)
    ∙ sym (map-append pos (take i bytes) (get_or bytes i 0 ∷ []))
    ∙ ap (map pos) (sym (take_more bytes i 0 c.loop-i-test.true))

pub returns : goal.returns
returns c =
    let i = c.loop-i.i in
    sym (take_all i c.loop-i.out (omega (arith, c.requires, c.loop-i-test.false, c.loop-i.auto.out)))
    ∙ c.loop-i.invariant
    ∙ ap (map pos) (take_all i c.args.bytes.now c.loop-i-test.false)
