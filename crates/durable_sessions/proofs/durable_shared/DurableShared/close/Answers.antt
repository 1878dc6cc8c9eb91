use Rattle.std.proofs.Common.{◌≡◌, ◌+◌, ◌≤◌, ℕ, List, [], ◌∷◌, ◌++◌, length, map, sym, ap, ◌∙◌, subst, rules, arith}
use Rattle.std.specs.Prelude.{All}
use Rattle.std.proofs.lemmas.Grind.{common_steps}
use Rattle.std.proofs.lemmas.List.{map-append, map-id}
use Rattle.std.proofs.lemmas.List.Elements.{All-push}
use Rattle.std.proofs.lemmas.Iterator.Adapters.{YieldsList-from_vec}
use Rattle.std.proofs.lemmas.Iterator.Consumers.{YieldsList-end}
use Rattle.publishing.specs.declared.item.Item.{Item}
use Rattle.publishing.specs.Lists.{number_in}
use Rattle.group_commit.specs.GroupLog.{GroupLogState, HoldsNow}
use Rattle.shared.specs.Endings.{IsClosedWith}
use Rattle.shared.specs.Sessions.{Seat}
use Rattle.durable_sessions.specs.Payloads.{payloads_in}
use Rattle.durable_sessions.proofs.SessionLemmas.{counts_of}
use Rattle.durable_sessions.proofs.PayloadsLemmas.{payloads_count}
use Rattle.durable_sessions.proofs.durable_shared.DurableShared.close.Goals as goal

pub loop-client-preserved : goal.loop-client-preserved
loop-client-preserved g c =
    let inv = c.loop-client.invariant in
    let base = g.O.JournalId.base in
    let client = c.in-Some.client in
    let xs = c.loop-client.yielded in
    let d = c.loop-client.group_log in
    let below = c.retire.ensures.below in
    record {
      can = search rules;
      finite = search rules;
      sessions =
          c.push_reserved.ensures.items
          ∙ ap (λ s. s ++ client.session ∷ []) inv.sessions
          ∙ sym (map-append (λ x. x.session) xs (client ∷ []));
      len = grind (arith, common_steps);
      room = grind (arith, common_steps);
      safe =
          subst (λ (e : GroupLogState). All (λ n. n ≤ base + length e.written) (map (λ x. x.reader) (xs ++ client ∷ []))) (sym c.retire.ensures.same)
          (subst (All (λ n. n ≤ base + length d.written)) (sym (map-append (λ x. x.reader) xs (client ∷ [])))
          (All-push (λ n. n ≤ base + length d.written) (map (λ x. x.reader) xs) client.reader inv.safe below));
    }

pub returns-clause-counts : goal.returns-clause-counts
returns-clause-counts g c =
    let all : c.loop-client.yielded ≡ c.args.clients.items =
    sym (map-id _)
    ∙ (YieldsList-end (YieldsList-from_vec c.args.clients.items (search rules) (search rules)) c.loop-client.yielded _
    c.loop-client.yielded_by _ c.next.new.self c.in-None.is
    c.next.ensures.steps).0 in
    c.close_parts-manager.ensures.counts
    ∙ ap (λ (s : List Seat). map (λ x. x.count) s) (c.loop-client.invariant.sessions ∙ ap (map (λ x. x.session)) all)
    ∙ counts_of (λ x. x.session) c.args.clients.items

pub returns-clause-ended : goal.returns-clause-ended
returns-clause-ended g c =
    let o = g.O.Opening.opened.manager in
    let table = g.O.DurableOpening.table in
    let front = g.O.JournalId.front in
    let base = g.O.JournalId.base in
    let seed = g.O.JournalId.seed in
    let all : c.loop-client.yielded ≡ c.args.clients.items =
    sym (map-id _)
    ∙ (YieldsList-end (YieldsList-from_vec c.args.clients.items (search rules) (search rules)) c.loop-client.yielded _
    c.loop-client.yielded_by _ c.next.new.self c.in-None.is
    c.next.ensures.steps).0 in
    let parts = c.into_parts-journal in
    let written = parts.result.written in
    let tried = parts.result.tried in
    let count = payloads_count o table written in
    let base_is = c.args.self.base_is in
    let top : base + length c.loop-client.group_log.written ≡ number_in o written =
    (let same = ap (λ (p : List (List ℕ)). length p) parts.ensures.written in omega (arith, same, count, base_is)) in
    let sessions = c.loop-client.invariant.sessions ∙ ap (map (λ x. x.session)) all in
    record {
      written = written;
      tried = tried;
      lasts =
          subst (λ (n : ℕ). HoldsNow front n seed parts.result.journal.device (payloads_in o table written) (payloads_in o table tried)) base_is
          parts.ensures.holds.now;
      spelt = c.list.ensures.spelt;
      answered =
          subst (λ (e : ℕ × List ℕ). All (λ n. n ≤ e.0) e.1) (λ k. (top k, ap (map (λ x. x.reader)) all k)) c.loop-client.invariant.safe;
      closed =
          subst (λ (e : List Seat × List Item). IsClosedWith o e.0 c.close_parts-manager.result.manager e.1)
          (λ k. (sessions k, c.list.ensures.list k)) c.close_parts-manager.ensures.closed;
    }
