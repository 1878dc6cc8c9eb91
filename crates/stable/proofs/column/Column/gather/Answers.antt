use Rattle.std.proofs.Common.{◌≡◌, ◌∙◌, ℕ, ◌+◌, ◌-◌, ◌*◌, ◌<◌, ◌≤◌, ◌++◌, false, List, length, take, drop, map, get_or, sym, ap, arith}
use Rattle.std.specs.List.{All}
use Rattle.std.proofs.lemmas.List.{map-append}
use Rattle.std.proofs.lemmas.List.Elements.{All-drop, All-take}
use Rattle.values.specs.declared.value.Value.{Value}
use Rattle.values.specs.declared.value.Value.TheVariants.{Bool as Truth}
use Rattle.blocks.specs.Column.{Column}
use Rattle.blocks.specs.Places.{value_at}
use Rattle.stable.specs.Column.{joined}
use Rattle.stable.proofs.GatherLemmas.{part-more, place-is, values-are}
use Rattle.stable.proofs.column.Column.gather.Goals as goal

pub gather-requires-clause-there : goal.gather-requires-clause-there
gather-requires-clause-there c =
    let inside = c.self.inside in
    let places = c.args.places.now in
    let long = ap (λ (s : Column). length s.values) c.self.view_is in
    let Here : ℕ → Type 0 = λ place. place < inside.count in
    let there : All Here places = λ k d lt. omega (arith, c.requires.within k d lt, c.self.invariant.blocked.counted, long) in
    let from = 1024 * c.loop-number.number in
    let part = All-take Here (c.min-to.result - from) (drop from places) (All-drop Here from places there) in
    rw c.as_slice.ensures.value
    (λ k d lt. place-is inside.ty inside.count inside.blocks.items c.self.invariant.blocked _ (part k d lt) c.self.invariant.fit)

pub loop-number-preserved : goal.loop-number-preserved
loop-number-preserved c =
    let inside = c.self.inside in
    let blocks = inside.blocks.items in
    let mine = c.args.self.now in
    let places = c.args.places.now in
    let long = ap (λ (s : Column). length s.values) c.self.view_is in
    let Here : ℕ → Type 0 = λ place. place < inside.count in
    let there : All Here places = λ k d lt. omega (arith, c.requires.within k d lt, c.self.invariant.blocked.counted, long) in
    let n = c.loop-number.number in
    let from = 1024 * n in
    let to = c.min-to.result in
    let part : List ℕ = take (to - from) (drop from places) in
    let all = All-take Here (to - from) (drop from places) (All-drop Here from places there) in
    let value : ℕ → Value = λ place. get_or mine.values place (Truth false) in
    let shown : joined blocks ≡ mine.values = ap (λ (s : Column). s.values) c.self.view_is in
    let more : c.in_ok-block.block.values ≡ map value part =
    ap (λ (b : Column). b.values) c.in_ok-block.ensures
    ∙ ap (λ (bs : List Column). map (value_at bs) part) c.as_slice.ensures.value
    ∙ values-are inside.ty inside.count blocks c.self.invariant.blocked part all
    ∙ ap (λ (vs : List Value). map (λ place. get_or vs place (Truth false)) part) shown in
    let low : from ≤ to = omega (arith, c.min-to.ensures, c.loop-number-test.true, c.div_ceil-number-end.ensures) in
    let high : to ≤ from + 1024 = omega (arith, c.min-to.ensures) in
    let last : to < from + 1024 → length places ≤ to = λ lt. omega (arith, c.min-to.ensures, lt) in
    c.in_ok-push_block.ensures.ok
    ∙ ap (λ (x : Column). record { ty = x.ty; values = x.values ++ c.in_ok-block.block.values }) c.loop-number.invariant
    ∙ ap (λ (vs : List Value). record { ty = mine.ty; values = map value (take from places) ++ vs }) more
    ∙ ap (λ (vs : List Value). record { ty = mine.ty; values = vs })
    (sym (map-append value (take from places) part) ∙ ap (map value) (part-more places n to low high last))
