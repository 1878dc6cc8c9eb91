use Rattle.std.proofs.Common.{◌≡◌, ◌∙◌, sym, ap, subst, arith}
use Rattle.replay.specs.Own.{Given}
use Rattle.replay.specs.Recovered.{MayEnd}
use Rattle.replay.proofs.PlaceLemmas.{kept_over}
use Rattle.replay.proofs.RecoveryLemmas.{ends_well, reaches_image}
use Rattle.replay.proofs.journal_frames.ReadFrames.newest_over.Goals as goal

pub overflow_add-due-2 : goal.overflow_add-due-2
overflow_add-due-2 c = let small = c.self.invariant.small in let few = c.self.invariant.few in omega (arith, small, few)

-- what is read after a sound crash ends in no fault
pub returns-in-Rot-clause-sound : goal.returns-in-Rot-clause-sound
returns-in-Rot-clause-sound c = λ decode schema t commits safe rows crash image.
    let given = c.args.self.now in
    let kept = kept_over (λ v. v.items) _ given _ _ _ _ c.self.view_is c.self.invariant in
    subst MayEnd (sym kept.ending_is ∙ c.in-Rot.is)
    (ends_well c.a_crash_leaves_whole_frames.ensures decode schema given.seed given.base t commits safe given.bytes crash)

pub returns-in-Gap-clause-sound : goal.returns-in-Gap-clause-sound
returns-in-Gap-clause-sound c = λ decode schema t commits safe rows crash image.
    let given = c.args.self.now in
    let kept = kept_over (λ v. v.items) _ given _ _ _ _ c.self.view_is c.self.invariant in
    subst MayEnd (sym kept.ending_is ∙ c.in-Gap.is)
    (ends_well c.a_crash_leaves_whole_frames.ensures decode schema given.seed given.base t commits safe given.bytes crash)

-- and goes on from the image
pub returns-in-Err-clause-sound : goal.returns-in-Err-clause-sound
returns-in-Err-clause-sound c = λ decode schema t commits safe rows crash image.
    let given = c.args.self.now in
    let kept = kept_over (λ v. v.items) _ given _ _ _ _ c.self.view_is c.self.invariant in
    let reach = reaches_image c.a_crash_leaves_whole_frames.ensures decode schema given.seed given.base t commits safe c.args.number
    given.bytes rows crash image in
    let base : c.self.inside.base ≡ given.base = ap (λ (g : Given). g.base) c.self.view_is in
    let from = image.from in
    let short = (c.in-Err.ensures.missing.1 (omega (arith, base, from))).0 in
    let count = kept.count_is in
    absurd (omega (arith, reach, short, base, count))
