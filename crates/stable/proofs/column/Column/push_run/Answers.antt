use Rattle.std.proofs.Common.{◌≡◌, ◌+◌, length, take, drop, sym, ap, subst, ◌∙◌, arith}
use Rattle.blocks.specs.Column.{Column, AllFit, Fits}
use Rattle.blocks.proofs.CallerLemmas.{all_take, all_drop}
use Rattle.stable.specs.Column.{joined, all_may_stand}
use Rattle.stable.proofs.PushLemmas.{shown, kept}
use Rattle.stable.proofs.RunLemmas.{length-run}
use Rattle.stable.proofs.StandLemmas.{more_stand, block_stands}
use Rattle.stable.proofs.column.Column.push_run.Goals as goal
use Rattle.std.proofs.lemmas.Grind.{common_steps}

pub add_run-requires-clause-typed : goal.add_run-requires-clause-typed
add_run-requires-clause-typed c = c.requires.typed ∙ sym (ap (λ (x : Column). x.ty) c.self.view_is)

pub add_run-requires-clause-fits : goal.add_run-requires-clause-fits
add_run-requires-clause-fits c =
    omega (arith, c.requires.fits, ap (λ (x : Column). length x.values) c.self.view_is, c.self.invariant.blocked.counted)

pub invariant_of-self-2 : goal.invariant_of-self-2
invariant_of-self-2 c =
    let inside = c.self.inside in
    let run = take c.args.run (drop c.args.start c.args.block.now.values) in
    let long : length run ≡ c.args.run = length-run c.args.block.now.values c.args.start c.args.run c.requires.within in
    let longer = c.in_ok-add_run.ensures.ok in
    let fit : AllFit inside.ty c.args.block.now.values =
    subst (λ ty. AllFit ty c.args.block.now.values) (c.requires.typed ∙ sym (ap (λ (x : Column). x.ty) c.self.view_is))
    c.len-length.ensures.fit in
    record {
      blocked =
          kept inside.ty inside.count inside.blocks.items c.self.invariant.blocked run c.add_run.new.blocks.items longer
          (inside.count + c.args.run) (ap (λ n. inside.count + n) (sym long));
      fit =
          subst (all_may_stand inside.ty)
          (sym (shown inside.ty inside.count inside.blocks.items c.self.invariant.blocked run c.add_run.new.blocks.items longer))
          (more_stand inside.ty (joined inside.blocks.items) run c.self.invariant.fit
          (block_stands inside.ty run (all_take (Fits inside.ty) c.args.run (drop c.args.start c.args.block.now.values)
          (all_drop (Fits inside.ty) c.args.start c.args.block.now.values fit))));
    }

pub returns-clause-ok : goal.returns-clause-ok
returns-clause-ok c = grind (arith, common_steps, c.self.invariant.blocked, c.in_ok-add_run.ensures.ok, shown)
