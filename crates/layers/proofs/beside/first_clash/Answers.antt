use Rattle.std.proofs.Common.{sym, ◌∙◌}
use Rattle.layers.proofs.SerialLemmas.{is_at, clear_next, clash_here, small_sid, clash_is}
use Rattle.layers.proofs.beside.first_clash.Goals as goal

pub find_beside-found-requires : goal.find_beside-found-requires
find_beside-found-requires c =
    let e = c.in-Some.entry.now in
    let here = is_at c.loop-entry.index c.args.x.now.entries c.next.new.self e
    (sym c.loop-entry.invariant.left ∙ c.in-Some.ensures.steps) in
    small_sid c.args.rule c.args.x.now c.args.y.now c.requires c.loop-entry.index e here.at

pub returns-in-Some-clash : goal.returns-in-Some-clash
returns-in-Some-clash c =
    let x = c.args.x.now in
    let y = c.args.y.now in
    let n = c.loop-entry.index in
    let e = c.in-Some.entry.now in
    let clash = c.in-Some-clash.clash in
    let here = is_at n x.entries c.next.new.self e (sym c.loop-entry.invariant.left ∙ c.in-Some.ensures.steps) in
    let beside = c.find_beside-found.ensures.clash in
    let own = clash_is c.args.rule x y c.requires n e beside.0 here.at beside.1 ∙ sym beside.2 ∙ c.in-Some-clash.is in
    sym (c.loop-entry.invariant.clear ∙ clash_here c.args.rule y.key_cols n x.entries y.entries e clash here.at own)

pub loop-entry-preserved : goal.loop-entry-preserved
loop-entry-preserved c =
    let x = c.args.x.now in
    let y = c.args.y.now in
    let n = c.loop-entry.index in
    let e = c.in-Some.entry.now in
    let here = is_at n x.entries c.next.new.self e (sym c.loop-entry.invariant.left ∙ c.in-Some.ensures.steps) in
    let beside = c.find_beside-found.ensures.clash in
    let own = clash_is c.args.rule x y c.requires n e beside.0 here.at beside.1 ∙ sym beside.2 ∙ c.in_default.is in
    record {
      left = here.left_is;
      within = here.within;
      clear = c.loop-entry.invariant.clear ∙ clear_next c.args.rule y.key_cols n x.entries y.entries e here.at own;
    }
