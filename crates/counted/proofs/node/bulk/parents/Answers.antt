use Rattle.std.proofs.Common.{ℕ, suc, ◌++◌, length, ap, sym, ◌∙◌, subst, arith, append_assoc, length-append}
use Rattle.std.specs.List.{All}
use Rattle.std.specs.Vec.Iter.{into_iter_items}
use Rattle.std.proofs.lemmas.List.Concat.{flat_map-append}
use Rattle.counted.specs.Shapes.{IsChild, items_of, all_items, depth_of}
use Rattle.counted.proofs.Places.{depth_all}
use Rattle.counted.proofs.BulkLemmas.{all-front, all-back, group_of}
use Rattle.counted.proofs.node.bulk.parents.Goals as goal

pub invariant_of-inner : goal.invariant_of-inner
invariant_of-inner c =
    let depth = depth_of c.args.children.items in
    let group = c.in_ok-children.children.items in
    let all = subst (All (IsChild depth)) c.in_ok-children.ensures.items c.loop-alloc.invariant.rest in
    let n = c.in_ok-children.ensures.count in
    let full = c.share_of-count.ensures.full in
    let room = c.share_of-count.ensures.room in
    group_of depth group (all-front depth group (into_iter_items c.next_of.new.rest) all) (omega arith) (omega arith)

pub loop-alloc-preserved : goal.loop-alloc-preserved
loop-alloc-preserved c =
    let depth = depth_of c.args.children.items in
    let group = c.in_ok-children.children.items in
    let rest = into_iter_items c.next_of.new.rest in
    let cut = c.in_ok-children.ensures.items in
    let long = ap length cut in
    let both = length-append group rest in
    let all = subst (All (IsChild depth)) cut c.loop-alloc.invariant.rest in
    let here = all-front depth group rest all in
    let n = c.in_ok-children.ensures.count in
    let full = c.share_of-count.ensures.full in
    let level = depth_all depth group here (omega arith) in
    let grown = c.in_ok-push_node.ensures.count in
    let P : ℕ → Type 0 = λ d. All (IsChild (suc d)) c.loop-alloc.out.items → All (IsChild (suc d)) c.push_node.new.out.items in
    record {
      left = omega arith;
      enough = λ some. (let h = c.share_of-count.ensures.rest (omega arith) in omega arith);
      some = omega arith;
      fewer = omega arith;
      items = ap (λ es. es ++ all_items rest) c.in_ok-push_node.ensures.items
          ∙ append_assoc (all_items c.loop-alloc.out.items) (all_items group) (all_items rest)
          ∙ ap (λ es. all_items c.loop-alloc.out.items ++ es) (sym (flat_map-append items_of group rest) ∙ ap all_items (sym cut))
          ∙ c.loop-alloc.invariant.items;
      rest = all-back depth group rest all;
      each = subst P level c.in_ok-push_node.ensures.each c.loop-alloc.invariant.each;
    }
