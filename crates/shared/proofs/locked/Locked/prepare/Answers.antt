use Rattle.std.proofs.Common.{◌≤◌, sym, ap, ◌∙◌, subst}
use Rattle.manager.specs.Managed.{IsOwn}
use Rattle.manager.specs.Prepared.{IsPrepared}
use Rattle.publishing.specs.Lists.{number_in}
use Rattle.shared.specs.Stands.{Stand}
use Rattle.shared.proofs.RepliesLemmas.{more_than_held, own_held}
use Rattle.shared.proofs.locked.Locked.prepare.Goals as goal

pub returns-then-is_behind-clause-stranger : goal.returns-then-is_behind-clause-stranger
returns-then-is_behind-clause-stranger g c =
    let more = c.is_behind.ensures.yes c.if-is_behind.true in
    λ is. more_than_held g.O.Opening.opened.manager c.args.seen.now.list c.self.inside.publisher more

pub prepare-requires : goal.prepare-requires
prepare-requires g c =
    let i = c.self.invariant in
    let both = c.longer-both in
    let le = c.is_behind.ensures.no c.if-is_behind.false in
    record {
      own =
          own_held g.O.Opening.opened.manager _ _ both.result.list c.self.inside.manager c.args.txn.now both.ensures.this
          both.ensures.that le i.0 c.requires.seen.1;
    }

pub returns-clause-own : goal.returns-clause-own
returns-clause-own g c =
    let i = c.self.invariant in
    let both = c.longer-both in
    let le = c.is_behind.ensures.no c.if-is_behind.false in
    subst (λ (s : Stand). IsOwn s.manager c.args.txn.now) c.self.view_is
    (own_held g.O.Opening.opened.manager _ _ both.result.list c.self.inside.manager c.args.txn.now both.ensures.this
    both.ensures.that le i.0 c.requires.seen.1)
