use Rattle.std.proofs.Common.{subst, sym}
use Rattle.std.specs.List.{All}
use Rattle.std.proofs.lemmas.List.{take_rest}
use Rattle.std.proofs.lemmas.List.Elements.{All-take, All-drop, All-nil}
use Rattle.counted.specs.Shapes.{IsChild}
use Rattle.counted.proofs.node.grown.with_grown.Goals as goal

pub returns-clause-each : goal.returns-clause-each
returns-clause-each c = λ depth each grown.
    let none = subst (All (IsChild depth)) (sym c.in_ok-out.ensures.items) (All-nil (IsChild depth)) in
    let start = c.in_ok-push_children.ensures.each depth none (All-take (IsChild depth) c.args.from c.args.children.now each) in
    let rest = subst (All (IsChild depth)) (sym (take_rest c.args.children.now c.args.to))
    (All-drop (IsChild depth) c.args.to c.args.children.now each) in
    c.in_ok-push_children-2.ensures.each depth (c.in_ok-push_grown.ensures.each depth grown start) rest
