use Rattle.std.proofs.Common.{◌∙◌, ℕ, List, take, drop, sym, ap, length, arith}
use Rattle.blocks.specs.Copies.{texts_of}
use Rattle.blocks.proofs.CopiesLemmas.{texts_are, one_alone, run_of_copies, length-texts_of}
use Rattle.blocks.proofs.texts.Texts.push_run.Goals as goal

pub returns-then-others-gt0-clause-ok : goal.returns-then-others-gt0-clause-ok
returns-then-others-gt0-clause-ok c =
    let count = c.args.count in
    let start = c.args.start in
    let given = c.others.inside.given in
    let copies = c.others.inside.copies in
    let one = c.others.invariant.one c.if-others-gt0.true in
    let alone = one_alone given c.get.result.now one c.get.ensures.text in
    let many = ap (λ (ts : List (List ℕ)). length ts) c.others.view_is in
    let run = run_of_copies c.get.result.now copies start count
    (omega (arith, c.requires.within, many, one, length-texts_of given copies)) in
    let same = sym run ∙ ap (λ (ts : List (List ℕ)). take count (drop start (texts_of ts copies))) (sym alone)
    ∙ ap (λ (ts : List (List ℕ)). take count (drop start ts)) c.others.view_is in
    rw same at c.push_copies.ensures.ok

pub returns-in_err-spell_out-clause-fit : goal.returns-in_err-spell_out-clause-fit
returns-in_err-spell_out-clause-fit c =
    let same = c.in_err-spell_out.ensures.err in
    rw (same.1, same.0) (texts_are c.self.inside.given c.self.inside.copies c.self.invariant)
