use Rattle.std.proofs.Common.{◌≡◌, ◌<◌, ◌≤◌, ◌+◌, ◌-◌, ◌∷◌, ◌++◌, length, map, take, drop, get_or, slice_range}
use Rattle.std.proofs.Common.{sym, ap, subst, ◌∙◌, arith, rules, IsCharBoundary}
use Rattle.std.specs.Prelude.{string_bytes}
use Rattle.std.specs.List.{All}
use Rattle.values.specs.declared.limits.TheConstants.{MAX_BLOCK_VALUES}
use Rattle.blocks.specs.Cuts.{cut, joined}
use Rattle.blocks.proofs.CutsLemmas.{RunLies, Longer, run_lies, push_lying, ends_small, buffer-short, length-cut}
use Rattle.blocks.proofs.RunLemmas.{length-run}
use Rattle.blocks.proofs.spelled.Spelled.push_run.Goals.{After-as_slice-ends, After-as_str, After-add_ends}
use Rattle.blocks.proofs.spelled.Spelled.push_run.Goals as goal
use Rattle.std.proofs.lemmas.Grind.{common_steps}

-- the run ends within the others' ends
within : (c : After-as_slice-ends) → c.args.start + c.args.count ≤ length c.others.inside.ends.items
within c = grind (arith, common_steps, c.requires.within, length-cut)

-- the run lies between the two places that were looked up
lying : (c : After-as_str) → RunLies c.others.inside.ends.items (string_bytes c.others.inside.text) c.args.start c.args.count
    c.begin_of-from.result c.begin_of-to.result
    (take c.args.count (drop c.args.start (cut 0 c.others.inside.ends.items (string_bytes c.others.inside.text))))
lying c =
    run_lies c.others.inside.ends.items (string_bytes c.others.inside.text) c.args.start c.args.count c.begin_of-from.result
    c.begin_of-to.result c.others.invariant (within (goal.at.range-requires-clause-start_le_end c).After-as_slice-ends)
    (c.begin_of-from.ensures ∙ ap (λ es. get_or (0 ∷ es) c.args.start 0) c.as_slice-ends.ensures.value)
    (c.begin_of-to.ensures ∙ ap (λ es. get_or (0 ∷ es) (c.args.start + c.args.count) 0) c.as_slice-ends.ensures.value)

pub overflow_add-start : goal.overflow_add-start
overflow_add-start c = record { fits = omega (arith, within c, c.others.invariant.few) }

pub prove-unreachable-requires : goal.prove-unreachable-requires
prove-unreachable-requires c =
    omega (arith, within (goal.at.prove-unreachable-requires c).After-as_slice-ends, ap length c.as_slice-ends.ensures.value)

pub range-requires-clause-start_le_end : goal.range-requires-clause-start_le_end
range-requires-clause-start_le_end c = (lying c).ordered

pub range-requires-clause-start_boundary : goal.range-requires-clause-start_boundary
range-requires-clause-start_boundary c =
    λ _. subst (λ bs. IsCharBoundary bs c.begin_of-from.result) (sym c.as_str.ensures.value) (lying c).begins

pub range-requires-clause-end_boundary : goal.range-requires-clause-end_boundary
range-requires-clause-end_boundary c =
    subst (λ bs. IsCharBoundary bs c.begin_of-to.result) (sym c.as_str.ensures.value) (lying c).stops

pub add_ends-requires-clause-moved : goal.add_ends-requires-clause-moved
add_ends-requires-clause-moved c =
    let at = lying (goal.at.add_ends-requires-clause-moved c).After-as_str in
    let run =
    take c.args.count (drop c.args.start (cut 0 c.others.inside.ends.items (string_bytes c.others.inside.text))) in
    let before : c.len-before.result ≡ length (string_bytes c.self.inside.text) = search rules in
    let small : c.args.start + c.args.count - c.args.start ≡ c.args.count = omega arith in
    let fits : c.len-before.result + (c.begin_of-from.result - c.begin_of-from.result) + length (joined run) < 4294967296 =
    omega (
      arith,
      before,
      at.within,
      buffer-short c.others.inside.ends.items (string_bytes c.others.inside.text) c.others.invariant,
      buffer-short c.self.inside.ends.items (string_bytes c.self.inside.text) c.self.invariant,
    ) in
    subst (All (λ end. (c.begin_of-from.result ≤ end) × (c.len-before.result + (end - c.begin_of-from.result) < 4294967296)))
    (sym (ap (λ n. take n (drop c.args.start c.as_slice-ends.result.now)) small
    ∙ ap (λ es. take c.args.count (drop c.args.start es)) c.as_slice-ends.ensures.value
    ∙ at.ended))
    (ends_small c.begin_of-from.result c.len-before.result c.begin_of-from.result run (omega arith) fits)

-- the texts with the run more
longer : (c : After-add_ends) → Longer c.self.inside.ends.items (string_bytes c.self.inside.text) c.add_ends.new.ends.items
    (string_bytes c.push_str.new.self)
    (take c.args.count (drop c.args.start (cut 0 c.others.inside.ends.items (string_bytes c.others.inside.text))))
longer c =
    let ends = c.others.inside.ends.items in
    let bytes = string_bytes c.others.inside.text in
    let here = c.self.inside.ends.items in
    let at = lying (goal.at.invariant_of-self-2 c).After-as_str in
    let whole = within (goal.at.invariant_of-self-2 c).After-as_slice-ends in
    let run = take c.args.count (drop c.args.start (cut 0 ends bytes)) in
    let before : c.len-before.result ≡ length (string_bytes c.self.inside.text) = search rules in
    let small : c.args.start + c.args.count - c.args.start ≡ c.args.count = omega arith in
    let few : length (cut 0 here (string_bytes c.self.inside.text)) + length run ≤ MAX_BLOCK_VALUES =
    omega (
      arith,
      c.requires.few,
      ap length c.self.view_is,
      length-run (cut 0 ends bytes) c.args.start c.args.count (omega (arith, whole, length-cut 0 ends bytes)),
    ) in
    let more = take (c.args.start + c.args.count - c.args.start) (drop c.args.start c.as_slice-ends.result.now) in
    push_lying here (string_bytes c.self.inside.text) ends bytes more c.add_ends.new.ends.items (string_bytes c.push_str.new.self)
    c.args.start c.args.count c.begin_of-from.result c.begin_of-to.result c.len-before.result run c.self.invariant at few before
    (ap (λ n. take n (drop c.args.start c.as_slice-ends.result.now)) small
    ∙ ap (λ es. take c.args.count (drop c.args.start es)) c.as_slice-ends.ensures.value)
    (c.add_ends.ensures
    ∙ ap (λ es. es ++ map (λ end. c.len-before.result + (end - c.begin_of-from.result)) more) c.in_ok-reserve.ensures.items)
    (c.in_ok-push_str.ensures.bytes
    ∙ ap (λ t. string_bytes c.self.inside.text ++ t)
    (c.range.ensures.value ∙ ap (λ bs. slice_range bs c.begin_of-from.result c.begin_of-to.result) c.as_str.ensures.value))

pub invariant_of-self-2 : goal.invariant_of-self-2
invariant_of-self-2 c = (longer c).keeps

pub returns-clause-ok : goal.returns-clause-ok
returns-clause-ok c =
    (longer c).shows ∙ (λ i. c.self.view_is i ++ take c.args.count (drop c.args.start (c.others.view_is i)))

pub returns-clause-fit : goal.returns-clause-fit
returns-clause-fit c = (longer c).keeps.texts
