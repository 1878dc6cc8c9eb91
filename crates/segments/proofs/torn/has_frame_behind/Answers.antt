use Rattle.segments.proofs.TornLemmas.{none_behind}
use Rattle.segments.proofs.torn.has_frame_behind.Goals as goal

pub returns-clause-none : goal.returns-clause-none
returns-clause-none c = λ e.
    none_behind c.args.seed c.args.newest c.args.torn.now c.loop-at.at c.loop-at-test.false c.loop-at.invariant.none
