use Rattle.std.proofs.Common.{◌∙◌}
use Rattle.std.specs.Option.{option_copied, option_map}
use Rattle.merge.specs.View.{row_of}
use Rattle.merge.proofs.KeyLemmas.{layer_rank}
use Rattle.merge.proofs.KeyRowLemmas.{layer_row}
use Rattle.merge.proofs.key_row.find_over.Goals as goal

pub returns-clause-rank : goal.returns-clause-rank
returns-clause-rank c = λ schema t layer place.
    let found = c.find-place in
    layer_rank schema t c.args.tree.now layer c.args.key.now c.args.below.rank place found.result.index found.result.rid
    found.ensures.split found.ensures.rid

pub returns-clause-row : goal.returns-clause-row
returns-clause-row c = λ schema t layer place below.
    let found = c.find-place in
    c.row_over.ensures.row
    ∙ layer_row schema t c.args.tree.now layer c.args.key.now c.args.below.rank found.result.index (option_map row_of c.args.below.row)
    (option_copied found.result.row) found.result.base
    place found.ensures.split below found.ensures.row found.ensures.base
