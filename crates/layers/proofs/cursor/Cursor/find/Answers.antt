use Rattle.std.proofs.Common.{◌+◌, ◌-◌, take, ap, ◌∙◌, arith}
use Rattle.model.specs.Places.{rid_of_insert}
use Rattle.delta.specs.Tree.{Tree}
use Rattle.layers.proofs.ClashLemmas.{rebased_place}
use Rattle.layers.proofs.PassLemmas.{ahead_at, counts_fit}
use Rattle.layers.proofs.cursor.Cursor.find.Goals as goal
use Rattle.std.proofs.lemmas.Grind.{common_steps}

pub overflow_add-sid : goal.overflow_add-sid
overflow_add-sid c =
    let few = counts_fit c.pass_before.new.self c.pass_before.ensures.cursor in
    omega (arith, few, c.sid.ensures, c.requires.sid)

pub returns-clause-rid : goal.returns-clause-rid
returns-clause-rid c =
    let y = c.args.self.now.tree.now in
    let e = c.args.entry.now in
    let n = c.pass_before.new.self.passed in
    let here = c.pass_before.ensures.cursor in
    c.saturating_sub.ensures
    ∙ (λ i. (c.sid.ensures i + here.added_is i) - here.gone_is i)
    ∙ ap (λ (t : Tree). rid_of_insert (take n t.entries) e.sid) c.pass_before.ensures.tree
    ∙ rebased_place c.args.rule y.key_cols e y.entries n c.pass_before.ensures.split

pub returns-clause-clash : goal.returns-clause-clash
returns-clause-clash c = grind (arith, common_steps, c.pass_before.ensures.tree, c.first.ensures, c.pass_before.ensures.cursor, c.key_cols.ensures, c.clash_at.ensures, c.pass_before.ensures.split, ahead_at)
