use Rattle.std.proofs.Common.{◌∙◌, is_some, ap}
use Rattle.std.specs.Option.{option_copied}
use Rattle.merge.proofs.KeyLemmas.{layer_rank}
use Rattle.merge.proofs.KeyRowLemmas.{layer_there}
use Rattle.merge.proofs.level.locate_over.Goals as goal

pub returns-clause-rank : goal.returns-clause-rank
returns-clause-rank c = λ schema t layer place.
    let found = c.find-place in
    layer_rank schema t c.args.tree.now layer c.args.key.now c.args.below.0 place found.result.index found.result.rid found.ensures.split
    found.ensures.rid

pub returns-clause-there : goal.returns-clause-there
returns-clause-there c = λ schema t layer place there.
    let found = c.find-place in
    c.is_there.ensures
    ∙ layer_there schema t c.args.tree.now layer c.args.key.now c.args.below.0 found.result.index c.args.below.1
    (is_some (option_copied found.result.row)) found.result.base
    place found.ensures.split there (ap is_some found.ensures.row) found.ensures.base
