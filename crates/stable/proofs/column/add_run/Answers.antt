use Rattle.std.proofs.Common.{[], sym, ap, ◌∙◌, arith}
use Rattle.std.proofs.lemmas.Result.{on_ok_weaker}
use Rattle.blocks.specs.Column.{Column}
use Rattle.stable.proofs.PushLemmas.{in_new, in_last, last_there, last_is, last_filled}
use Rattle.stable.proofs.RunLemmas.{length-run}
use Rattle.stable.proofs.column.add_run.Goals as goal
use Rattle.std.proofs.lemmas.Grind.{common_steps}

pub index_mut-requires : goal.index_mut-requires
index_mut-requires c = grind (arith, common_steps, c.requires.kept, c.if-count-eq0.false, last_there)

pub push_run-requires-clause-few : goal.push_run-requires-clause-few
push_run-requires-clause-few c =
    grind (arith, common_steps, c.requires.fits, c.requires.kept, c.if-count-eq0.false, c.index_mut.ensures.value, last_filled)

pub push_run-requires-clause-typed : goal.push_run-requires-clause-typed
push_run-requires-clause-typed c =
    c.requires.typed
    ∙ sym (ap (λ (b : Column). b.ty)
    (last_is c.args.ty c.args.count c.args.blocks.now.items c.requires.kept [] c.if-count-eq0.false
    c.index_mut.result.now c.index_mut.ensures.value))

pub returns-in_ok-push-clause-ok : goal.returns-in_ok-push-clause-ok
returns-in_ok-push-clause-ok c = grind (arith, common_steps, c.requires.within, c.in_ok-push.ensures.items, c.in_ok-run_of.ensures, c.requires.kept, c.if-count-eq0.true, c.requires.fits, c.requires.some, length-run, in_new)

pub returns-else-count-eq0-clause-ok : goal.returns-else-count-eq0-clause-ok
returns-else-count-eq0-clause-ok c = grind (arith, common_steps, c.requires.within, c.requires.kept, c.if-count-eq0.false, c.requires.some, c.requires.fits, c.push_run.ensures.ok, length-run, in_last, on_ok_weaker)
