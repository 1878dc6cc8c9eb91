use Rattle.std.proofs.Common.{◌≡◌, ℕ, ◌+◌, ◌++◌, ◌∙◌, length, ap, sym, subst, arith, append_assoc}
use Rattle.std.specs.List.{All}
use Rattle.std.proofs.lemmas.Result.{on_ok_weaker}
use Rattle.counted.specs.Grown.{AreGrown, grown_items}
use Rattle.counted.specs.Shapes.{IsChild, all_items}
use Rattle.counted.proofs.node.grown.push_grown.Goals as goal

pub returns-in-One-clause-items : goal.returns-in-One-clause-items
returns-in-One-clause-items c =
    let old = all_items c.args.out.now.items in
    on_ok_weaker _ (λ (e : all_items c.push_node.new.out.items ≡ old ++ c.in-One.node.items). e
    ∙ ap (λ g. old ++ grown_items g) (sym c.in-One.is)) c.push_node.ensures.items

pub returns-in-One-clause-some : goal.returns-in-One-clause-some
returns-in-One-clause-some c =
    on_ok_weaker _ (λ (e : length c.push_node.new.out.items ≡ length c.args.out.now.items + 1). omega (arith, e)) c.push_node.ensures.count

pub returns-in-One-clause-few_more : goal.returns-in-One-clause-few_more
returns-in-One-clause-few_more c =
    on_ok_weaker _ (λ (e : length c.push_node.new.out.items ≡ length c.args.out.now.items + 1). omega (arith, e)) c.push_node.ensures.count

pub returns-in-One-clause-each : goal.returns-in-One-clause-each
returns-in-One-clause-each c =
    let P : ℕ → Type 0 = λ n. All (IsChild n) c.args.out.now.items → All (IsChild n) c.push_node.new.out.items in
    on_ok_weaker _ (λ (f : P c.in-One.node.depth). λ depth grown. subst P
    (subst (AreGrown depth) c.in-One.is grown) f) c.push_node.ensures.each

pub returns-in_ok-push_node-in-Two-clause-items : goal.returns-in_ok-push_node-in-Two-clause-items
returns-in_ok-push_node-in-Two-clause-items c =
    let old = all_items c.args.out.now.items in
    let left = c.in-Two.left.items in
    let right = c.in-Two.right.items in
    let one = ap (λ xs. xs ++ right) c.in_ok-push_node-in-Two.ensures.items ∙ append_assoc old left right
    ∙ ap (λ g. old ++ grown_items g) (sym c.in-Two.is) in
    on_ok_weaker _ (λ (e : all_items c.push_node-in-Two-2.new.out.items ≡ all_items c.push_node-in-Two.new.out.items ++ right). e
    ∙ one) c.push_node-in-Two-2.ensures.items

pub returns-in_ok-push_node-in-Two-clause-some : goal.returns-in_ok-push_node-in-Two-clause-some
returns-in_ok-push_node-in-Two-clause-some c =
    let one = c.in_ok-push_node-in-Two.ensures.count in
    on_ok_weaker _ (λ (e : length c.push_node-in-Two-2.new.out.items ≡ length c.push_node-in-Two.new.out.items + 1). omega
    (arith, e, one)) c.push_node-in-Two-2.ensures.count

pub returns-in_ok-push_node-in-Two-clause-few_more : goal.returns-in_ok-push_node-in-Two-clause-few_more
returns-in_ok-push_node-in-Two-clause-few_more c =
    let one = c.in_ok-push_node-in-Two.ensures.count in
    on_ok_weaker _ (λ (e : length c.push_node-in-Two-2.new.out.items ≡ length c.push_node-in-Two.new.out.items + 1). omega
    (arith, e, one)) c.push_node-in-Two-2.ensures.count

pub returns-in_ok-push_node-in-Two-clause-each : goal.returns-in_ok-push_node-in-Two-clause-each
returns-in_ok-push_node-in-Two-clause-each c =
    let P : ℕ → Type 0 = λ n. All (IsChild n) c.args.out.now.items → All (IsChild n) c.push_node-in-Two.new.out.items in
    let Q : ℕ → Type 0 = λ n. All (IsChild n) c.push_node-in-Two.new.out.items → All (IsChild n) c.push_node-in-Two-2.new.out.items in
    on_ok_weaker _ (λ (f : Q c.in-Two.right.depth). λ depth grown each.
    let level = subst (AreGrown depth) c.in-Two.is grown in
    subst Q level.1 f (subst P level.0 c.in_ok-push_node-in-Two.ensures.each each)) c.push_node-in-Two-2.ensures.each
