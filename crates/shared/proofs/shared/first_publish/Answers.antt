use Rattle.std.proofs.Common.{drop, sym, ap, ◌∙◌, subst}
use Rattle.publishing.specs.Lists.{Known}
use Rattle.publishing.specs.Views.{Begins}
use Rattle.publishing.proofs.CallerLemmas.{sees, begins_self, fold_last_is}
use Rattle.shared.proofs.shared.first_publish.Goals as goal

pub publish_as-requires : goal.publish_as-requires
publish_as-requires g c next is =
    let w = c.append.new.self in
    let x = w.desk.shown.value in
    let shown = ap (λ d. d.shown.value) c.in-Ok.ensures.desk ∙ c.requires in
    let old = drop c.args.writer.behind c.args.writer.log.items in
    let now = fold_last_is x next c.args.again old (drop w.behind w.log.items) c.in-Ok.ensures.pending is in
    sees w.desk.place.id w.desk.place.me.0.client x next (subst (λ (y : Known). Begins x y) (shown ∙ sym now) (begins_self x))
