use Rattle.std.proofs.Common.{◌≡◌, ◌∙◌, ◌-◌, ◌+◌, ◌<◌, suc, Bor, List, ℕ, true, arith, rules, length, map, sym, ap}
use Rattle.std.specs.Result.{is_ok}
use Rattle.std.proofs.lemmas.List.{length-map}
use Rattle.inputs.specs.Plain.{Moved, moved_to}
use Rattle.inputs.proofs.PlainLemmas.{name-drop, with_key-fault, with_key-step}
use Rattle.inputs.proofs.plain.move_key.Goals as goal

pub returns-in-None-clause-err : goal.returns-in-None-clause-err
returns-in-None-clause-err c =
    let key = c.args.key.now in
    let test = c.loop-i-test.true in
    let at = length key - 1 - c.loop-i.i in
    let names = map (λ (it : Bor (List ℕ)). it.now) key in
    let lt : at < length key = omega (arith, test) in
    let left : length key - c.loop-i.i ≡ suc at = omega (arith, test) in
    let wide = length-map key (λ (it : Bor (List ℕ)). it.now) in
    let found = rw c.as_slice.ensures.value at (sym c.place_named.ensures ∙ c.in-None.is) in
    let here = name-drop key at _ lt in
    let so_far : Moved = record { places = c.loop-i.moved.items; headings = c.loop-i.headings.items } in
    let step = with_key-step names c.args.headings.now.items at (length key - c.loop-i.i) _ _ left here c.loop-i.invariant in
    λ ne. with_key-fault at names c.args.headings.now.items _ (omega (arith, lt, wide)) (step ∙ ap (moved_to at so_far) found)

pub loop-i-preserved : goal.loop-i-preserved
loop-i-preserved c =
    let key = c.args.key.now in
    let test = c.loop-i-test.true in
    let at = length key - 1 - c.loop-i.i in
    let names = map (λ (it : Bor (List ℕ)). it.now) key in
    let lt : at < length key = omega (arith, test) in
    let left : length key - c.loop-i.i ≡ suc at = omega (arith, test) in
    let next : at ≡ length key - (c.loop-i.i + 1) = omega (arith, test) in
    let found = rw c.as_slice.ensures.value at (sym c.place_named.ensures ∙ c.in-Some.is) in
    let here = name-drop key at _ lt in
    let so_far : Moved = record { places = c.loop-i.moved.items; headings = c.loop-i.headings.items } in
    let step = with_key-step names c.args.headings.now.items at (length key - c.loop-i.i) _ _ left here c.loop-i.invariant in
    let good : is_ok c.push.result ≡ true = search rules in
    let items = rw good at c.push.ensures.items in
    rw (← next, items, c.set_first.ensures, c.in_ok-move_first.ensures) (step ∙ ap (moved_to at so_far) found)
