use Rattle.std.proofs.Common.{◌≡◌, List, ◌∙◌, sym, subst, rules, arith}
use Rattle.std.proofs.lemmas.Grind.{common_steps}
use Rattle.std.proofs.lemmas.List.{map-id}
use Rattle.std.specs.Prelude.{All}
use Rattle.std.proofs.lemmas.List.Elements.{All-push}
use Rattle.std.proofs.lemmas.Iterator.Adapters.{YieldsList-from_vec}
use Rattle.std.proofs.lemmas.Iterator.Consumers.{YieldsList-end}
use mathlib.Core.List.{IsPrefix}
use Rattle.publishing.specs.declared.item.Item.{Item}
use Rattle.publishing.specs.Lists.{IsListed}
use Rattle.shared.specs.Endings.{AreOfOneList}
use Rattle.shared.specs.Sessions.{Seat}
use Rattle.shared.proofs.CloseLemmas.{all_are_beginnings}
use Rattle.shared.proofs.EndingLemmas.{goes_on-made}
use Rattle.shared.proofs.shared.close_parts.Goals as goal

pub loop-session-preserved : goal.loop-session-preserved
loop-session-preserved g c =
    let list = c.close-manager.result.list.list in
    let s = c.in-Some.session in
    let both = c.longer-both.result.list in
    let seen = subst (λ (l : List Item). IsPrefix l both) c.end-count.ensures.list.0 c.longer-both.ensures.this in
    record {
      can = search rules;
      finite = search rules;
      parts = grind (arith, common_steps);
      amount = grind (arith, common_steps);
      counts = grind (arith, common_steps);
      room = grind (arith, common_steps);
      seen =
          All-push (λ (s : Seat). AreOfOneList s.seen list) c.loop-session.yielded s c.loop-session.invariant.seen
          (both, seen, c.longer-both.ensures.that);
    }

pub returns-clause-closed : goal.returns-clause-closed
returns-clause-closed g c =
    let all : c.loop-session.yielded ≡ c.args.sessions.items =
    sym (map-id _)
    ∙ (YieldsList-end (YieldsList-from_vec c.args.sessions.items (search rules) (search rules)) c.loop-session.yielded _
    c.loop-session.yielded_by _ c.next.new.self c.in-None.is
    c.next.ensures.steps).0 in
    let e = c.close-manager.ensures in
    let list = c.close-manager.result.list.list in (
      record {
        list = list;
        listed = subst (λ (l : List Item). IsListed g.O.Opening.opened.manager l c.close-manager.result.manager) (sym e.list.0) e.listed;
        seen = subst (All (λ (s : Seat). AreOfOneList s.seen list)) all c.loop-session.invariant.seen;
        goes_on = e.goes_on;
      },
      (c.longer-also.result.list, c.longer-also.ensures.this, c.longer-also.ensures.that),
    )

pub returns-clause-lists : goal.returns-clause-lists
returns-clause-lists g c =
    let all : c.loop-session.yielded ≡ c.args.sessions.items =
    sym (map-id _)
    ∙ (YieldsList-end (YieldsList-from_vec c.args.sessions.items (search rules) (search rules)) c.loop-session.yielded _
    c.loop-session.yielded_by _ c.next.new.self c.in-None.is
    c.next.ensures.steps).0 in
    let o = g.O.Opening.opened.manager in
    let e = c.close-manager.ensures in
    let m = c.close-manager.result.manager in
    let list = c.close-manager.result.list.list in
    let listed = subst (λ (l : List Item). IsListed o l m) (sym e.list.0) e.listed in
    all_are_beginnings o list m listed c.args.sessions.items
    (subst (All (λ (s : Seat). AreOfOneList s.seen list)) all c.loop-session.invariant.seen)

pub returns-clause-handed : goal.returns-clause-handed
returns-clause-handed g c = goes_on-made g.O.Opening.opened.manager c.close-manager.result.manager c.close-manager.ensures.goes_on
