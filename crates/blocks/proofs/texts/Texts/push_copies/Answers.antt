use Rattle.std.proofs.Common.{◌++◌, ◌∷◌, ◌∙◌, ◌+◌, ◌-◌, ℕ, [], List, sym, ap, arith, length}
use Rattle.std.specs.Prelude.{replicate}
use Rattle.blocks.specs.Copies.{texts_of}
use Rattle.blocks.proofs.CopiesLemmas.{texts_are, more_copies, all_copies, none_given, length-texts_of}
use Rattle.blocks.proofs.texts.Texts.push_copies.Goals as goal

pub returns-then-count-eq0-clause-fit : goal.returns-then-count-eq0-clause-fit
returns-then-count-eq0-clause-fit c = texts_are c.self.inside.given c.self.inside.copies c.self.invariant

pub returns-then-is_one-clause-ok : goal.returns-then-is_one-clause-ok
returns-then-is_one-clause-ok c =
    let one = c.is_one.ensures c.if-is_one.true in
    let count = c.args.count in
    let copies = c.self.inside.copies in
    ap (λ (ts : List (List ℕ)). texts_of ts (copies + count)) one
    ∙ more_copies c.args.text.now copies count
    ∙ ap (λ (ts : List (List ℕ)). texts_of ts copies ++ replicate count c.args.text.now) (sym one)
    ∙ ap (λ (ts : List (List ℕ)). ts ++ replicate count c.args.text.now) c.self.view_is

pub returns-then-is_one-clause-fit : goal.returns-then-is_one-clause-fit
returns-then-is_one-clause-fit c =
    let given = c.self.inside.given in
    let copies = c.self.inside.copies in
    let alone = ap (λ (ts : List (List ℕ)). length ts) (c.is_one.ensures c.if-is_one.true) in
    let many = ap (λ (ts : List (List ℕ)). length ts) c.self.view_is in
    texts_are given (copies + c.args.count) (record {
      few = omega (arith, c.requires.few, many, length-texts_of given copies);
      one = λ some. alone;
      texts = c.self.invariant.texts;
    })

pub returns-then-len-eq0-clause-ok : goal.returns-then-len-eq0-clause-ok
returns-then-len-eq0-clause-ok c =
    let count = c.args.count in
    let text = c.args.text.now in
    let none = none_given c.self.inside.given c.self.inside.copies c.self.invariant (sym c.len.ensures.len ∙ c.if-len-eq0.true) in
    ap (λ (ts : List (List ℕ)). texts_of ts (count - 1)) (c.in_ok-push.ensures.ok ∙ ap (λ (ts : List (List ℕ)). ts ++ text ∷ []) none.0)
    ∙ all_copies text count (omega (arith, c.if-count-eq0.false))
    ∙ ap (λ (ts : List (List ℕ)). ts ++ replicate count text) (sym none.1 ∙ c.self.view_is)

pub returns-then-len-eq0-clause-fit : goal.returns-then-len-eq0-clause-fit
returns-then-len-eq0-clause-fit c =
    let none = none_given c.self.inside.given c.self.inside.copies c.self.invariant (sym c.len.ensures.len ∙ c.if-len-eq0.true) in
    let text = c.args.text.now in
    let alone =
    ap (λ (ts : List (List ℕ)). length ts) (c.in_ok-push.ensures.ok ∙ ap (λ (ts : List (List ℕ)). ts ++ text ∷ []) none.0) in
    texts_are c.push.new.self (c.args.count - 1) (record {
      few = omega (arith, c.requires.few, alone, c.if-count-eq0.false);
      one = λ some. alone;
      texts = c.in_ok-push.ensures.fit;
    })

pub returns-in_err-spell_out-clause-fit : goal.returns-in_err-spell_out-clause-fit
returns-in_err-spell_out-clause-fit c =
    let same = c.in_err-spell_out.ensures.err in
    rw (same.1, same.0) (texts_are c.self.inside.given c.self.inside.copies c.self.invariant)
