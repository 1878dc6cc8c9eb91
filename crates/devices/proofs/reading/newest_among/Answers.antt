use Rattle.std.proofs.Common.{◌-◌, Some, None, List, cond, map, take, sym, ap, ◌∙◌, arith}
use Rattle.frames.specs.declared.frame.Part.{Part}
use Rattle.devices.specs.Stored.{newest_of}
use Rattle.devices.proofs.NewestLemmas.{newest_of-take}
use Rattle.devices.proofs.reading.newest_among.Goals as goal

pub returns-then-ends_image : goal.returns-then-ends_image
returns-then-ends_image c =
    let others : List (List Part) = map (λ p. p.items) c.args.others.now in
    let parts = c.args.parts.now in
    let end = c.loop-end.end in
    let part = c.index-parts-end.result in
    let ends = sym c.ends_image.ensures ∙ c.if-ends_image.true in
    sym (sym c.loop-end.invariant.found
    ∙ newest_of-take others parts end part (omega (arith, c.loop-end-test.true)) c.loop-end.invariant.left c.index-parts-end.is
    ∙ ap (λ b. cond b (Some part.generation) (newest_of others None (take (end - 1) parts))) ends)

pub loop-end-preserved : goal.loop-end-preserved
loop-end-preserved c =
    let others : List (List Part) = map (λ p. p.items) c.args.others.now in
    let parts = c.args.parts.now in
    let end = c.loop-end.end in
    let part = c.index-parts-end.result in
    let ends = sym c.ends_image.ensures ∙ c.if-ends_image.false in
    record {
      left = omega (arith, c.loop-end.invariant.left);
      found = sym (ap (λ b. cond b (Some part.generation) (newest_of others None (take (end - 1) parts))) ends)
          ∙ sym (newest_of-take others parts end part (omega (arith, c.loop-end-test.true)) c.loop-end.invariant.left c.index-parts-end.is)
          ∙ c.loop-end.invariant.found;
    }
