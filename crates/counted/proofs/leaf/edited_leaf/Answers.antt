use Rattle.std.proofs.Common.{◌+◌, ◌-◌, ◌++◌, length, take, drop, ap, ◌∙◌}
use Rattle.counted.specs.Edits.{put_items}
use Rattle.counted.proofs.Leaves.{leaf_edited}
use Rattle.counted.proofs.leaf.edited_leaf.Goals as goal

pub returns : goal.returns
returns c =
    let xs = c.args.entries.now in
    let at = c.args.at in
    let end = at + c.args.gone in
    let one = c.in_ok-push_entries.ensures ∙ ap (λ ys. ys ++ (take at xs)) c.in_ok-out.ensures.items in
    c.in_ok-push_entries-2.ensures
    ∙ ap (λ ys. ys ++ (take (length xs - end) (drop end xs))) (c.in_ok-push_some.ensures
    ∙ ap (λ ys. ys ++ put_items c.args.put) one) ∙ leaf_edited xs at c.args.gone (put_items c.args.put)
