use Rattle.std.proofs.Common.{◌≡◌, ◌≤◌, Some, length, drop, sym, ap, ◌∙◌, subst, arith}
use Rattle.std.specs.Prelude.{slice_get}
use Rattle.std.specs.Option.{option_copied}
use Rattle.model.specs.History.{table_with_all}
use Rattle.layers.specs.Passage.{IsPassed}
use Rattle.manager.specs.Passing.{MayPass}
use Rattle.manager.proofs.PassingLemmas.{IsOnItsWay, begins, met, aligned, stopped, goes_on, ended, nothing_past}
use Rattle.manager.proofs.passing.passed_through.Goals as goal

pub loop-index-init : goal.loop-index-init
loop-index-init c =
    let kept = drop c.args.first c.args.kept.now.items in
    λ (w : MayPass c.args.conflicts kept c.args.tree).
    subst (IsOnItsWay c.args.conflicts w.schema w.x w.rest (table_with_all w.now w.rest) kept) (sym c.of-passage.ensures) (begins _ _ _ w)

pub pass-requires : goal.pass-requires
pass-requires c =
    let kept = c.args.kept.now.items in
    let at : slice_get kept c.loop-index.index ≡ Some c.unwrap-other.result.now =
    sym c.get.ensures ∙ ap option_copied c.unwrap-other.ensures in
    let w = c.requires in
    let way = c.loop-index.invariant w in
    aligned _ w.schema w.x w.rest _ w.lawful kept c.loop-index.passage c.loop-index.index _ at way
    (met _ w.schema w.x w.rest _ w.lawful kept c.loop-index.passage c.loop-index.index _ at way)

pub returns-in-Conflict : goal.returns-in-Conflict
returns-in-Conflict c =
    let kept = c.args.kept.now.items in
    let tree = c.loop-index.passage in
    let n = c.loop-index.index in
    let at : slice_get kept n ≡ Some c.unwrap-other.result.now = sym c.get.ensures ∙ ap option_copied c.unwrap-other.ensures in
    λ (w : MayPass c.args.conflicts (drop c.args.first kept) c.args.tree).
    let way = c.loop-index.invariant w in
    let m = met _ w.schema w.x w.rest _ w.lawful kept tree n _ at way in
    let two = aligned _ w.schema w.x w.rest _ w.lawful kept tree n _ at way m in
    let is = subst (IsPassed c.args.conflicts tree c.unwrap-other.result.now two) c.in-Conflict.is (c.in_ok-next.ensures two) in
    stopped _ w.schema w.x w.rest _ w.lawful kept tree n _ at way m is.0

pub loop-index-preserved : goal.loop-index-preserved
loop-index-preserved c =
    let kept = c.args.kept.now.items in
    let tree = c.loop-index.passage in
    let n = c.loop-index.index in
    let at : slice_get kept n ≡ Some c.unwrap-other.result.now = sym c.get.ensures ∙ ap option_copied c.unwrap-other.ensures in
    λ (w : MayPass c.args.conflicts (drop c.args.first kept) c.args.tree).
    let way = c.loop-index.invariant w in
    let m = met _ w.schema w.x w.rest _ w.lawful kept tree n _ at way in
    let two = aligned _ w.schema w.x w.rest _ w.lawful kept tree n _ at way m in
    let is = subst (IsPassed c.args.conflicts tree c.unwrap-other.result.now two) c.in-On.is (c.in_ok-next.ensures two) in
    goes_on _ w.schema w.x w.rest _ w.lawful kept tree n _ at way m c.in-On.next is.0 is.1

pub returns : goal.returns
returns c =
    let kept = c.args.kept.now.items in
    let n = c.loop-index.index in
    let end : length kept ≤ n = omega (arith, c.len-index-end.ensures.len, c.loop-index-test.false) in
    λ (w : MayPass c.args.conflicts (drop c.args.first kept) c.args.tree).
    let all =
    ended _ w.schema w.x w.rest _ w.lawful (drop n kept) c.loop-index.passage (nothing_past kept n end)
    (c.loop-index.invariant w) in
    (all.0, c.in_ok-into_tree.ensures ∙ all.1)
