use Rattle.std.proofs.Common.{◌-◌, take, drop, ap, ◌∙◌}
use Rattle.delta.specs.Tree.{Tree}
use Rattle.delta.proofs.RangesLemmas.{first-le-past, filter-at}
use Rattle.delta.proofs.tree.DeltaTree.entries_at.Goals as goal

pub overflow_sub-end : goal.overflow_sub-end
overflow_sub-end c = first-le-past c.args.sid c.args.self.now.entries _ _ c.index_of_sid-start.ensures c.index_past-end.ensures

pub returns : goal.returns
returns c =
    let n = c.index_of_sid-start.result in
    let m = c.index_past-end.result in
    let list = ap (λ (w : Tree). take (m - n) (drop n w.entries)) c.self.view_is in
    c.iter.ensures ∙ list ∙ filter-at c.args.sid c.args.self.now.entries n m c.index_of_sid-start.ensures c.index_past-end.ensures
