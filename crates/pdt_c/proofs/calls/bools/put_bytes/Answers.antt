use Rattle.std.proofs.Common.{◌≡◌, ◌∙◌, ℕ, ◌∷◌, [], ◌++◌, List, length, get_or, refl, sym, ap, arith, w64, rules}
use Rattle.std.specs.Prelude.{ℤ, pos}
use Rattle.std.proofs.lemmas.Int.{to_z-of_z}
use Rattle.std.proofs.lemmas.List.{length-map, take_all, take_more_set}
use Rattle.merge.specs.Packed.{number_of}
use Rattle.pdt_c.specs.Truths.{byte_of, truths_of}
use Rattle.pdt_c.proofs.TruthLemmas.{bytes_more}
use Rattle.pdt_c.proofs.calls.bools.put_bytes.Goals as goal

pub loop-i-init : goal.loop-i-init
loop-i-init c = λ truths are. refl

pub loop-i-preserved : goal.loop-i-preserved
loop-i-preserved c = λ truths are.
    let i = c.loop-i.i in
    let out = c.loop-i.out in
    let byte = c.byte_of.result in
    take_more_set out i byte (omega (arith, c.loop-i-test.true, c.loop-i.auto.out, c.requires))
    ∙ ap (λ (bs : List ℕ). bs ++ byte ∷ []) (c.loop-i.invariant truths are)
    ∙ sym (bytes_more truths c.args.numbers.now i byte (pos 0) are c.loop-i-test.true (λ truth is.
    c.byte_of.ensures truth (to_z-of_z w64 (get_or c.args.numbers.now i (pos 0)) (search rules) ∙ is)))

pub returns-clause-truths : goal.returns-clause-truths
returns-clause-truths c = λ truths are.
    let i = c.loop-i.i in
    let many : length truths ≡ length c.args.numbers.now =
    sym (ap (λ (ns : List ℤ). length ns) are.numbers_are ∙ length-map truths number_of) in
    sym (take_all i c.loop-i.out (omega (arith, c.loop-i-test.false, c.loop-i.auto.out, c.requires)))
    ∙ c.loop-i.invariant truths are
    ∙ take_all i (truths_of truths) (omega (arith, c.loop-i-test.false, many, length-map truths byte_of))
