use Rattle.std.proofs.Common.{◌<◌, ◌^◌, length, refl, arith}
use Rattle.std.proofs.lemmas.Option.{slice_get_read}
use Rattle.layers.proofs.ShiftLemmas.{IsBlock, all_shifted, settled}
use Rattle.layers.proofs.blocks.settle.Goals as goal
use Rattle.std.proofs.lemmas.Grind.{common_steps}

pub move_all-requires : goal.move_all-requires
move_all-requires c =
    let es = c.args.entries.now in
    let start = c.start_of-start in
    let end = c.start_of-end in
    let here : IsBlock c.args.block start.result end.result (length es) = record {
      within = start.ensures.within;
      below = start.ensures.below;
      there = start.ensures.there;
      end_within = end.ensures.within;
      end_below = end.ensures.below;
      end_there = end.ensures.there;
    } in
    let ss = c.args.shifts.now in
    let found = c.in-Some.ensures.lookup in
    let at = slice_get_read ss (length ss) c.args.block c.in-Some.shift.now refl found.3.0 found.1 in
    all_shifted ss es c.args.block start.result end.result here (λ e. e.sid < 2 ^ 64) c.in-Some.shift.now at
    c.requires

pub returns-clause-same : goal.returns-clause-same
returns-clause-same c = grind (arith, common_steps, c.in-Some.ensures.lookup, c.none.ensures, c.move_all.ensures, slice_get_read, settled)
