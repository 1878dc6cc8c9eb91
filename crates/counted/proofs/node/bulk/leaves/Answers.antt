use Rattle.std.proofs.Common.{◌++◌, length, ap, sym, ◌∙◌, arith, append_assoc, length-append}
use Rattle.std.specs.Vec.Iter.{into_iter_items}
use Rattle.counted.specs.Shapes.{all_items}
use Rattle.counted.proofs.node.bulk.leaves.Goals as goal

pub loop-alloc-preserved : goal.loop-alloc-preserved
loop-alloc-preserved c =
    let group = c.in_ok-entries.entries.items in
    let rest = into_iter_items c.next_of.new.rest in
    let cut = c.in_ok-entries.ensures.items in
    let long = ap length cut in
    let both = length-append group rest in
    let n = c.in_ok-entries.ensures.count in
    let room = c.share_of-count.ensures.room in
    let made = c.loop-alloc.children.items in
    let grown = c.in_ok-push_node.ensures.count in
    record {
      left = omega arith;
      enough = λ some. (let h = c.share_of-count.ensures.rest (omega arith) in omega arith);
      some = omega arith;
      items = ap (λ es. es ++ rest) c.in_ok-push_node.ensures.items
          ∙ append_assoc (all_items made) group rest
          ∙ ap (λ es. all_items made ++ es) (sym cut)
          ∙ c.loop-alloc.invariant.items;
      each = c.in_ok-push_node.ensures.each c.loop-alloc.invariant.each;
    }
