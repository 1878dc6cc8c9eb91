use Rattle.std.proofs.Common.{rules, is_lt}
use Rattle.std.proofs.lemmas.Fn.{always_returns_same}
use Rattle.inputs.specs.Filling.{place_cmp}
use Rattle.inputs.proofs.AscentLemmas.{place_cmp_weak}
use Rattle.inputs.proofs.ascent.places_by_cells.Goals as goal

pub returns-clause-sorted : goal.returns-clause-sorted
returns-clause-sorted c =
    c.in_ok-sort_by.ensures.sorted (λ a b. is_lt (place_cmp c.args.key_cols c.args.columns.now a b))
    (place_cmp_weak c.args.key_cols c.args.columns.now) (always_returns_same _ _ _ (λ a r q k. search rules))
