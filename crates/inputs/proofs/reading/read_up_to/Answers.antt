use Rattle.std.proofs.Common.{◌≡◌, ◌+◌, ◌∷◌, ◌++◌, [], true, false, length, arith, rules}
use Rattle.std.proofs.lemmas.List.{length-append}
use Rattle.csv.specs.Records.{fields_of}
use Rattle.inputs.proofs.ReadLemmas.{found-there, none-there, then-ok}
use Rattle.inputs.proofs.reading.read_up_to.Goals as goal

pub next_record-requires : goal.next_record-requires
next_record-requires c =
    let at = c.loop-before.invariant.read in
    (c.requires.0, at.0, at.2 c.requires.0 c.requires.1)

pub next_record-requires-2 : goal.next_record-requires-2
next_record-requires-2 c =
    let at = c.loop-before.invariant.read in
    (c.requires.0, at.0, at.2 c.requires.0 c.requires.1)

pub returns-then-not-more : goal.returns-then-not-more
returns-then-not-more c text start records are =
    let at = c.loop-before.invariant.read in
    let none : c.in_ok-more.more ≡ false = search rules in
    let below = c.loop-before-test.true in
    none-there text at.0 _ (rw none at (c.in_ok-more.ensures text at.0 (at.2 text start))) (omega (arith, at.1, below)) records are

pub loop-before-preserved : goal.loop-before-preserved
loop-before-preserved c =
    let inv = c.loop-before.invariant in
    let at = inv.read in
    let one : c.in_ok-more.more ≡ true = search rules in
    let below = c.loop-before-test.true in
    let fields = fields_of c.next_record.new.fields in
    let longer : length (at.0 ++ fields ∷ []) ≡ length at.0 + 1 = simp length-append in
    record {
      last = omega (arith, below);
      read = (
        at.0 ++ fields ∷ [],
        omega (arith, longer, at.1),
        λ text start. rw one at (c.in_ok-more.ensures text at.0 (at.2 text start)),
      );
    }

pub returns : goal.returns
returns c =
    let inv = c.loop-before.invariant in
    let at = inv.read in
    let past = c.loop-before-test.false in
    then-ok c.next_record-2.result _ _
    (λ found reads text start records are.
    found-there text at.0 c.next_record-2.new.reader found (fields_of c.next_record-2.new.fields) _ (reads text at.0 (at.2 text start))
    (omega (arith, inv.last, at.1, past)) records are)
    c.next_record-2.ensures
