use Rattle.std.proofs.Common.{◌≤◌, sym, ap, ◌∙◌, subst, arith}
use Rattle.model.specs.declared.write.CommitReply.{CommitReply}
use Rattle.manager.specs.Managed.{IsOwn, Managed, record_of, with_record}
use Rattle.manager.specs.Prepared.{IsPrepared}
use Rattle.txn.specs.Txn.{effects_of}
use Rattle.publishing.specs.Lists.{IsListed, number_in}
use Rattle.publishing.proofs.CallerLemmas.{listed_over}
use Rattle.shared.specs.Endings.{GoesOn}
use Rattle.shared.specs.Stands.{IsGrown, IsReleased, IsShownAfter, Stand}
use Rattle.shared.proofs.EndingLemmas.{goes_on-over, goes_on-record}
use Rattle.shared.proofs.RepliesLemmas.{reached_by, replied}
use Rattle.shared.proofs.locked.Locked.commit.Goals as goal

pub show_commit-requires-clause-own : goal.show_commit-requires-clause-own
show_commit-requires-clause-own g c = subst (λ (s : Stand). IsOwn s.manager c.args.txn) (sym c.self.view_is) c.requires.own

pub show_commit-requires-clause-prepared : goal.show_commit-requires-clause-prepared
show_commit-requires-clause-prepared g c =
    subst (λ (s : Stand). IsPrepared s.manager c.args.txn c.args.prepared) (sym c.self.view_is) c.requires.prepared

pub install_into-reply-requires-clause-own : goal.install_into-reply-requires-clause-own
install_into-reply-requires-clause-own g c = subst (λ (s : Stand). IsOwn s.manager c.args.txn) (sym c.self.view_is) c.requires.own

pub install_into-reply-requires-clause-prepared : goal.install_into-reply-requires-clause-prepared
install_into-reply-requires-clause-prepared g c =
    subst (λ (s : Stand). IsPrepared s.manager c.args.txn c.args.prepared) (sym c.self.view_is) c.requires.prepared

pub returns-clause-replied : goal.returns-clause-replied
returns-clause-replied g c =
    let o = g.O.Opening.opened.manager in
    let i = c.self.invariant in
    let ys = c.self.inside.publisher in
    let zs = c.show_commit.new.self in
    let reply = c.install_into-reply.result.0 in
    let le = subst (λ (s : Stand). number_in o c.args.seen.now.list ≤ number_in o s.list) (sym c.self.view_is) c.requires.caught_up in
    let due = c.install_into-reply.ensures.decided.due in
    let prepared = subst (λ (s : Stand). IsPrepared s.manager c.args.txn c.args.prepared) (sym c.self.view_is) c.requires.prepared in
    let same = prepared.due ∙ sym due in
    let grown = subst (λ (r : CommitReply). IsGrown ys zs c.args.txn r) same c.in-Ok.ensures.grown in
    replied o c.args.seen.now.list ys c.longer-both.result.list zs c.longer.result.list c.self.inside.manager c.args.txn reply
    c.longer-both.ensures.this c.longer.ensures.this c.longer.ensures.that le c.requires.seen.1 i.0 due grown

pub returns-clause-reached : goal.returns-clause-reached
returns-clause-reached g c =
    let o = g.O.Opening.opened.manager in
    let ys = c.self.inside.publisher in
    let zs = c.show_commit.new.self in
    let reply = c.install_into-reply.result.0 in
    let due = c.install_into-reply.ensures.decided.due in
    let prepared = subst (λ (s : Stand). IsPrepared s.manager c.args.txn c.args.prepared) (sym c.self.view_is) c.requires.prepared in
    let same = prepared.due ∙ sym due in
    let grown = subst (λ (r : CommitReply). IsGrown ys zs c.args.txn r) same c.in-Ok.ensures.grown in
    let told = ap (number_in o) c.list.ensures.list in
    let reached = reached_by o ys zs c.self.inside.manager c.args.txn reply c.self.invariant.0 due grown in
    omega (arith, told, reached)

pub invariant_of-self-2 : goal.invariant_of-self-2
invariant_of-self-2 g c =
    let o = g.O.Opening.opened.manager in
    let i = c.self.invariant in
    let m = c.self.inside.manager in
    let txn = c.args.txn in
    let reply = c.install_into-reply.result.0 in
    let kept = c.install_into-reply.ensures.decided.kept in
    let layers = c.install_into-reply.new.self.layers in
    let prepared = subst (λ (s : Stand). IsPrepared s.manager c.args.txn c.args.prepared) (sym c.self.view_is) c.requires.prepared in
    let same = prepared.due ∙ sym c.install_into-reply.ensures.decided.due in
    let shown = c.in-Ok.ensures in
    let list = c.show_commit.new.self in
    let listed = subst (λ (r : CommitReply). IsListed o list (with_record m (record_of txn r))) same shown.listed in
    let made = ap (λ (n : Managed). n.made) kept in (
      subst (λ (n : Managed). IsListed o list n) (sym kept) (listed_over o list (with_record m (record_of txn reply)) layers listed),
      omega (arith, made, i.1, c.count_reply.ensures.total),
      i.2,
      i.3 ∙ sym (ap (λ (n : Managed). n.schema) kept),
      subst (λ (n : Managed). GoesOn o n) (sym kept)
          (goes_on-over o (with_record m (record_of txn reply)) (goes_on-record o m i.4 (record_of txn reply)) layers),
    )

pub returns-clause-grown : goal.returns-clause-grown
returns-clause-grown g c =
    let zs = c.show_commit.new.self in
    let prepared = subst (λ (s : Stand). IsPrepared s.manager c.args.txn c.args.prepared) (sym c.self.view_is) c.requires.prepared in
    let same = prepared.due ∙ sym c.install_into-reply.ensures.decided.due in
    let grown = subst (λ (r : CommitReply). IsGrown c.self.inside.publisher zs c.args.txn r) same c.in-Ok.ensures.grown in
    subst (λ (s : Stand). IsGrown s.list zs c.args.txn c.install_into-reply.result.0) c.self.view_is grown

pub returns-clause-shown : goal.returns-clause-shown
returns-clause-shown g c =
    let o = g.O.Opening.opened.manager in
    let zs = c.show_commit.new.self in
    let x = effects_of c.args.txn in
    let prepared = subst (λ (s : Stand). IsPrepared s.manager c.args.txn c.args.prepared) (sym c.self.view_is) c.requires.prepared in
    let same = prepared.due ∙ sym c.install_into-reply.ensures.decided.due in
    let shown = subst (λ (r : CommitReply). IsShownAfter o c.self.inside.manager.layers x r zs) same c.in-Ok.ensures.shown in
    subst (λ (s : Stand). IsShownAfter o s.manager.layers x c.install_into-reply.result.0 zs) c.self.view_is shown

pub returns-clause-released : goal.returns-clause-released
returns-clause-released g c =
    let install = c.install_into-reply in
    let prepared = subst (λ (s : Stand). IsPrepared s.manager c.args.txn c.args.prepared) (sym c.self.view_is) c.requires.prepared in
    let released : IsReleased c.self.inside.manager c.args.txn install.result.1 =
    (c.args.prepared, prepared, install.ensures.released) in
    subst (λ (s : Stand). IsReleased s.manager c.args.txn install.result.1) c.self.view_is released

pub returns-clause-reply : goal.returns-clause-reply
returns-clause-reply g c =
    let prepared = subst (λ (s : Stand). IsPrepared s.manager c.args.txn c.args.prepared) (sym c.self.view_is) c.requires.prepared in
    c.install_into-reply.ensures.decided.due ∙ sym prepared.due
