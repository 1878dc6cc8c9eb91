use Rattle.std.proofs.Common.{drop, sym, ap, ◌∙◌}
use Rattle.publishing.specs.Lists.{Known, shown_in}
use Rattle.publishing.proofs.CallerLemmas.{sees, grows, shown_in-push}
use Rattle.shared.proofs.publisher.publish.Goals as goal

pub publish_as-requires : goal.publish_as-requires
publish_as-requires g c next is =
    let w = c.append.new.self in
    let shown = ap (λ d. d.shown.value) c.in-Ok.ensures.desk ∙ c.requires.shown in
    let op = c.new-operation.ensures ∙ c.again.ensures ∙ c.in-Some.ensures in
    let opening = ap (λ k. k.opening) op in
    let list = ap (λ k. k.list) op in
    let old = drop c.args.writer.behind c.args.writer.log.items in
    sees w.desk.place.id w.desk.place.me.0.client w.desk.shown.value next
    (grows c.args.list.now w.desk.shown.value next c.new-operation.result c.args.item old (drop w.behind w.log.items) shown
    c.in-Ok.ensures.pending opening list is).1

pub new-operation-requires-clause-shown : goal.new-operation-requires-clause-shown
new-operation-requires-clause-shown g c =
    let op = c.again.ensures ∙ c.in-Some.ensures in
    c.requires.item
    ∙ sym (shown_in-push c.args.list.now.opening.manager c.args.list.now.list c.args.item)
    ∙ sym (ap (λ (k : Known). shown_in k.opening.manager k.list) op)
