use Rattle.std.proofs.Common.{ap, sym, ◌∙◌}
use Rattle.counted.specs.Shapes.{view_of}
use Rattle.counted.proofs.InPlace.{copied_children}
use Rattle.counted.proofs.Places.{at_inner}
use Rattle.counted.proofs.node.Node.copied.Goals as goal

pub invariant_of-result-in-Inner : goal.invariant_of-result-in-Inner
invariant_of-result-in-Inner c =
    let at = at_inner c.self.view_is c.self.invariant c.in-Inner.is in
    let new = c.in_ok-copied_children-in-Inner.ensures in
    (copied_children c.in-Inner.children.items _ _ c.args.self.now at.each
    (ap view_of (sym c.in-Inner.is) ∙ c.self.view_is) c.deref-in-Inner.ensures.value new.items
    new.count new.each).each

pub returns-in_ok-copied_children-in-Inner : goal.returns-in_ok-copied_children-in-Inner
returns-in_ok-copied_children-in-Inner c =
    let at = at_inner c.self.view_is c.self.invariant c.in-Inner.is in
    let new = c.in_ok-copied_children-in-Inner.ensures in
    (copied_children c.in-Inner.children.items _ _ c.args.self.now at.each
    (ap view_of (sym c.in-Inner.is) ∙ c.self.view_is) c.deref-in-Inner.ensures.value new.items
    new.count new.each).view
