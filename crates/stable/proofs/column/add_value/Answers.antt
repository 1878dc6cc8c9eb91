use Rattle.std.proofs.Common.{◌∷◌, [], sym, ap, subst, arith, IsTrue}
use Rattle.values.specs.Lent.{value_of}
use Rattle.values.specs.Shape.{has_type}
use Rattle.values.specs.declared.value.ColumnType.{ColumnType}
use Rattle.std.proofs.lemmas.Result.{on_ok_weaker}
use Rattle.blocks.specs.Column.{Column}
use Rattle.stable.proofs.PushLemmas.{in_new, in_last, last_there, last_is, last_filled}
use Rattle.stable.proofs.column.add_value.Goals as goal
use Rattle.std.proofs.lemmas.Grind.{common_steps}

pub index_mut-requires : goal.index_mut-requires
index_mut-requires c = grind (arith, common_steps, c.requires.kept, c.if-count-eq0.false, last_there)

pub push-requires-else-count-eq0-clause-few : goal.push-requires-else-count-eq0-clause-few
push-requires-else-count-eq0-clause-few c =
    grind (arith, common_steps, c.requires.kept, c.if-count-eq0.false, c.index_mut.ensures.value, last_filled)

pub push-requires-else-count-eq0-clause-typed : goal.push-requires-else-count-eq0-clause-typed
push-requires-else-count-eq0-clause-typed c =
    let is =
    last_is c.args.ty c.args.count c.args.blocks.now.items c.requires.kept (value_of c.args.value ∷ []) c.if-count-eq0.false
    c.index_mut.result.now c.index_mut.ensures.value in
    subst (λ (ty : ColumnType). IsTrue (has_type ty (value_of c.args.value))) (sym (ap (λ (b : Column). b.ty) is)) c.requires.typed

pub returns-in_ok-push-clause-ok : goal.returns-in_ok-push-clause-ok
returns-in_ok-push-clause-ok c =
    grind (arith, common_steps, c.in_ok-push.ensures.items, c.in_ok-block_of.ensures, c.requires.kept, c.if-count-eq0.true, in_new)

pub returns-else-count-eq0-clause-ok : goal.returns-else-count-eq0-clause-ok
returns-else-count-eq0-clause-ok c = grind (arith, common_steps, c.requires.kept, c.if-count-eq0.false, in_last, on_ok_weaker)
