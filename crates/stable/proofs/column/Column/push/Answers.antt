use Rattle.std.proofs.Common.{◌≡◌, ◌+◌, ◌∷◌, [], ap, subst, sym, ◌∙◌, refl, true, arith}
use Rattle.values.specs.Lent.{value_of}
use Rattle.values.specs.Shape.{has_type}
use Rattle.blocks.specs.Column.{Column}
use Rattle.stable.specs.Column.{joined, all_may_stand}
use Rattle.stable.proofs.PushLemmas.{shown, kept}
use Rattle.stable.proofs.StandLemmas.{one_stands, more_stand}
use Rattle.stable.proofs.column.Column.push.Goals as goal
use Rattle.std.proofs.lemmas.Grind.{common_steps}

pub invariant_of-self-2 : goal.invariant_of-self-2
invariant_of-self-2 c =
    let inside = c.self.inside in
    let v = value_of c.args.value in
    let longer = c.in_ok-add_value.ensures.ok in
    let typed : has_type inside.ty v ≡ true = ap (λ (x : Column). has_type x.ty v) c.self.view_is ∙ c.requires.typed in
    record {
      blocked =
          kept inside.ty inside.count inside.blocks.items c.self.invariant.blocked (v ∷ []) c.add_value.new.blocks.items longer
          (inside.count + 1) refl;
      fit =
          subst (all_may_stand inside.ty)
          (sym (shown inside.ty inside.count inside.blocks.items c.self.invariant.blocked (v ∷ []) c.add_value.new.blocks.items
          longer))
          (more_stand inside.ty (joined inside.blocks.items) (v ∷ []) c.self.invariant.fit (one_stands inside.ty v typed c.requires.short));
    }

pub returns-clause-ok : goal.returns-clause-ok
returns-clause-ok c = grind (arith, common_steps, c.self.invariant.blocked, c.in_ok-add_value.ensures.ok, shown)
