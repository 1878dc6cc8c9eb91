use Rattle.std.proofs.Common.{sym, ◌∙◌, ap, length}
use Rattle.publishing.proofs.Adding.{adds_moves}
use Rattle.publishing.proofs.seen.ItemCounter.add.Goals as goal

pub compare_exchange-found-requires : goal.compare_exchange-found-requires
compare_exchange-found-requires g c =
    let h = c.self.invariant in
    let offer = c.plain-offer.ensures in
    let pen = c.no_pen-pen.ensures in
    let seen = c.again-seen.ensures in
    let mine = ap (λ s. s.book) seen ∙ ap (λ k. k.opening.book) c.list.view_is ∙ ap (λ o. o.book) c.requires.opening in (
      ap (λ w. w.tracked) h,
      mine ∙ sym (ap (λ w. w.book) h),
      pen.0 ∙ (mine ∙ sym (ap (λ w. w.book) h)),
      offer.0,
      rw (ap (λ w. w.key) h, pen.1, offer.1, offer.3)
          (adds_moves c.again-seen.result.log c.args.item c.list.inside.items (ap (λ s. length s.log) seen ∙ c.list.invariant.0)),
    )
