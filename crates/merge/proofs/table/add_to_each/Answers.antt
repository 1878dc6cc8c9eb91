use Rattle.std.proofs.Common.{◌≡◌, ◌+◌, ◌<◌, ◌^◌, suc, List, length, get_or, set, refl, sym, ap, subst, ◌∙◌, arith}
use Rattle.std.specs.List.{All}
use Rattle.blocks.specs.Column.{Column}
use Rattle.merge.specs.Fitting.{StandsAt}
use Rattle.merge.specs.Stretches.{stretch_rows}
use Rattle.merge.proofs.ColumnsLemmas.{grown_to, with_rows, get_or-grown_to, set-grown_to, grown_to-end}
use Rattle.merge.proofs.table.add_to_each.Goals as goal

pub loop-col-init : goal.loop-col-init
loop-col-init c = refl

pub add_stretch-requires-clause-stand : goal.add_stretch-requires-clause-stand
add_stretch-requires-clause-stand c =
    let old = c.args.columns.now.items in
    let col = c.loop-col.col in
    let rows = stretch_rows c.args.stretch in
    let d : Column = c.index_mut.result.now in
    let within : col < length old = omega (arith, c.loop-col-test.true, c.len-col-end.ensures) in
    let is : d ≡ get_or old col d = c.index_mut.ensures.value ∙ ap (λ (cs : List Column). get_or cs col d) c.loop-col.invariant
    ∙ get_or-grown_to 0 col old rows d in
    subst (λ (x : Column). All (StandsAt x.ty col) rows) (sym is) (c.requires.stand col d within)

pub add_stretch-requires-clause-room : goal.add_stretch-requires-clause-room
add_stretch-requires-clause-room c =
    let old = c.args.columns.now.items in
    let col = c.loop-col.col in
    let rows = stretch_rows c.args.stretch in
    let d : Column = c.index_mut.result.now in
    let within : col < length old = omega (arith, c.loop-col-test.true, c.len-col-end.ensures) in
    let is : d ≡ get_or old col d = c.index_mut.ensures.value ∙ ap (λ (cs : List Column). get_or cs col d) c.loop-col.invariant
    ∙ get_or-grown_to 0 col old rows d in
    subst (λ (x : Column). length x.values + length rows < 2 ^ 63) (sym is) (c.requires.room col d within)

pub loop-col-preserved : goal.loop-col-preserved
loop-col-preserved c =
    let old = c.args.columns.now.items in
    let col = c.loop-col.col in
    let rows = stretch_rows c.args.stretch in
    let d : Column = c.index_mut.result.now in
    let within : col < length old = omega (arith, c.loop-col-test.true, c.len-col-end.ensures) in
    let is : d ≡ get_or old col d = c.index_mut.ensures.value ∙ ap (λ (cs : List Column). get_or cs col d) c.loop-col.invariant
    ∙ get_or-grown_to 0 col old rows d in
    ap (λ (cs : List Column). set cs col c.add_stretch.new.column) c.loop-col.invariant
    ∙ ap (λ (x : Column). set (grown_to 0 col old rows) col x) (c.in_ok-add_stretch.ensures ∙ ap (with_rows col rows) is)
    ∙ set-grown_to 0 col col old rows d within (omega arith)
    ∙ ap (λ k. grown_to 0 k old rows) (let e : suc col ≡ col + 1 = omega arith in e)

pub returns : goal.returns
returns c =
    let old = c.args.columns.now.items in
    c.loop-col.invariant
    ∙ grown_to-end 0 c.loop-col.col old (stretch_rows c.args.stretch) (omega (arith, c.loop-col-test.false, c.len-col-end.ensures))
