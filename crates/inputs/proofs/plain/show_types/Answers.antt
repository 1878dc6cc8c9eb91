use Rattle.std.proofs.Common.{◌≡◌, ◌∙◌, ◌+◌, ◌++◌, ◌∷◌, [], true, false, length, map, refl, sym, ap, arith, rules}
use Rattle.std.proofs.lemmas.List.{length_push}
use Rattle.csv.specs.Records.{fields_of}
use Rattle.inputs.specs.Plain.{or_text, types_shown, unseen}
use Rattle.inputs.proofs.ReadLemmas.{then-ok}
use Rattle.inputs.proofs.PlainLemmas.{length-shown, seen-more, shown-all, shown-first}
use Rattle.inputs.proofs.plain.show_types.Goals as goal

pub loop-init : goal.loop-init
loop-init c = ([], refl, λ text header start. start, c.in_ok-kinds.ensures)

pub next_record-requires : goal.next_record-requires
next_record-requires c =
    let at = c.loop.invariant in
    (c.requires.0, c.requires.1 ∷ at.0, at.2 c.requires.0 c.requires.1 c.requires.2)

pub loop-preserved : goal.loop-preserved
loop-preserved c =
    let at = c.loop.invariant in
    let one : c.in_ok-found.found ≡ true = search rules in
    let fields = fields_of c.next_record.new.fields in (
      at.0 ++ fields ∷ [],
      length_push at.0 fields ∙ ap (λ n. n + 1) at.1,
      λ text header start. rw one at (c.in_ok-found.ensures text (header ∷ at.0) (at.2 text header start)),
      c.add_kinds.ensures ∙ rw at.3 (sym (seen-more (unseen c.args.width) at.0 fields)),
    )

pub returns-then-not-found-clause-shown : goal.returns-then-not-found-clause-shown
returns-then-not-found-clause-shown c =
    let at = c.loop.invariant in
    let test = c.loop-test.true in
    let count = at.1 in
    let none : c.in_ok-found.found ≡ false = search rules in
    then-ok c.kinds_shown.result _ _
    (λ types is text header records start g.
    let read = rw none at (c.in_ok-found.ensures text (header ∷ at.0) (at.2 text header start)) in
    is ∙ ap (map or_text) (c.as_slice.ensures.value ∙ at.3)
    ∙ ap (types_shown c.args.width) (sym (shown-all text header at.0 records c.args.sample read g (omega (arith, count, test)))))
    c.kinds_shown.ensures

pub returns-clause-shown : goal.returns-clause-shown
returns-clause-shown c =
    let at = c.loop.invariant in
    let test = c.loop-test.false in
    let end = c.loop.auto.counter-end in
    let count = at.1 in
    then-ok c.kinds_shown-2.result _ _
    (λ types is text header records start g.
    is ∙ ap (map or_text) (c.as_slice-2.ensures.value ∙ at.3)
    ∙ ap (types_shown c.args.width)
    (sym (shown-first text header at.0 records c.args.sample c.loop.reader (at.2 text header start) g (omega (arith, count, test, end)))))
    c.kinds_shown-2.ensures

pub returns-then-not-found-clause-wide : goal.returns-then-not-found-clause-wide
returns-then-not-found-clause-wide c =
    let at = c.loop.invariant in
    then-ok c.kinds_shown.result _ _
    (λ types is. ap length (is ∙ ap (map or_text) (c.as_slice.ensures.value ∙ at.3)) ∙ length-shown c.args.width at.0)
    c.kinds_shown.ensures

pub returns-clause-wide : goal.returns-clause-wide
returns-clause-wide c =
    let at = c.loop.invariant in
    then-ok c.kinds_shown-2.result _ _
    (λ types is. ap length (is ∙ ap (map or_text) (c.as_slice-2.ensures.value ∙ at.3)) ∙ length-shown c.args.width at.0)
    c.kinds_shown-2.ensures
