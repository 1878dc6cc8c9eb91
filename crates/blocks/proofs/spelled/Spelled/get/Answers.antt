use Rattle.std.proofs.Common.{◌≡◌, ◌<◌, ◌+◌, ◌-◌, ◌∷◌, length, take, drop, get_or, slice_range, sym, ap, subst, ◌∙◌, arith, IsCharBoundary}
use Rattle.std.specs.Prelude.{string_bytes}
use Rattle.blocks.proofs.CutsLemmas.{Lies, length-cut, lies}
use Rattle.blocks.proofs.spelled.Spelled.get.Goals.{After-as_slice-ends, After-begin_of-2, After-range}
use Rattle.blocks.proofs.spelled.Spelled.get.Goals as goal
use Rattle.std.proofs.lemmas.Grind.{common_steps}

-- the text has an end among the ends
within : (c : After-as_slice-ends) → c.args.i < length c.self.inside.ends.items
within c = grind (arith, common_steps, c.requires, length-cut)

-- the text lies between the two places that were looked up
lying : (c : After-begin_of-2)
    → Lies c.self.inside.ends.items (string_bytes c.self.inside.text) c.args.i c.begin_of.result c.begin_of-2.result
lying c =
    lies c.self.inside.ends.items (string_bytes c.self.inside.text) c.args.i c.begin_of.result c.begin_of-2.result
    c.self.invariant (within (goal.at.range-requires-clause-start_le_end c).After-as_slice-ends)
    (c.begin_of.ensures ∙ ap (λ es. get_or (0 ∷ es) c.args.i 0) c.as_slice-ends.ensures.value)
    (c.begin_of-2.ensures ∙ ap (λ es. get_or (0 ∷ es) (c.args.i + 1) 0) c.as_slice-ends.ensures.value)

pub begin_of-requires : goal.begin_of-requires
begin_of-requires c =
    omega (arith, within (goal.at.begin_of-requires c).After-as_slice-ends, ap length c.as_slice-ends.ensures.value)

pub overflow_add-i : goal.overflow_add-i
overflow_add-i c =
    record { fits = omega (arith, within (goal.at.overflow_add-i c).After-as_slice-ends, c.self.invariant.few) }

pub begin_of-requires-2 : goal.begin_of-requires-2
begin_of-requires-2 c =
    omega (arith, within (goal.at.begin_of-requires-2 c).After-as_slice-ends, ap length c.as_slice-ends.ensures.value)

pub range-requires-clause-start_le_end : goal.range-requires-clause-start_le_end
range-requires-clause-start_le_end c = (lying c).ordered

pub range-requires-clause-start_boundary : goal.range-requires-clause-start_boundary
range-requires-clause-start_boundary c =
    λ _. subst (λ bytes. IsCharBoundary bytes c.begin_of.result) (sym c.as_str.ensures.value) (lying c).begins

pub range-requires-clause-end_boundary : goal.range-requires-clause-end_boundary
range-requires-clause-end_boundary c =
    subst (λ bytes. IsCharBoundary bytes c.begin_of-2.result) (sym c.as_str.ensures.value) (lying c).stops

-- the text that is lent
lent : (c : After-range)
    → c.range.result.now ≡ take (c.begin_of-2.result - c.begin_of.result) (drop c.begin_of.result (string_bytes c.self.inside.text))
lent c = c.range.ensures.value ∙ ap (λ bytes. slice_range bytes c.begin_of.result c.begin_of-2.result) c.as_str.ensures.value

pub returns-clause-text : goal.returns-clause-text
returns-clause-text c = grind (arith, common_steps, lying, lent)

pub returns-clause-short : goal.returns-clause-short
returns-clause-short c =
    omega (arith, (lying (goal.at.returns-clause-short c).After-begin_of-2).short, ap length (lent c))
