use Rattle.std.proofs.Common.{inl, inr}
use Rattle.segments.proofs.ListingLemmas.{here, next, none_left}
use Rattle.segments.proofs.listing.has_file.Goals as goal

pub returns-then-is_file-clause-there : goal.returns-then-is_file-clause-there
returns-then-is_file-clause-there c _ =
    here c.args.names.now c.loop-name.name-index _ c.args.number c.loop-name-test.true (c.is_file.ensures.there c.if-is_file.true)

pub loop-name-preserved : goal.loop-name-preserved
loop-name-preserved c has =
    elim (next c.args.names.now c.loop-name.name-index _ c.args.number c.loop-name-test.true (c.loop-name.invariant has)) [
      | inl is ↦ absurd (c.is_file.ensures.gone c.if-is_file.false is)
      | inr more ↦ more
    ]

pub returns-clause-gone : goal.returns-clause-gone
returns-clause-gone c _ has =
    none_left c.args.names.now c.loop-name.name-index c.args.number c.loop-name-test.false (c.loop-name.invariant has)
