use Rattle.std.proofs.Common.{◌≡◌, ℕ, List, length, sym, ap, ◌∙◌, arith}
use Rattle.publishing.specs.Lists.{Opened, number_in}
use Rattle.durable_sessions.specs.Payloads.{effects_in, payloads_from, payloads_in}
use Rattle.durable_sessions.proofs.PayloadsLemmas.{eq_same, one_history, payloads_count, same_eq}
use Rattle.durable_sessions.proofs.published_prefix.PublishedPrefixHistoryPrefix.has_same_commits.Goals as goal

pub returns-clause-same : goal.returns-clause-same
returns-clause-same g c = λ same.
    let o = g.O.Opening.opened.manager in
    let xs = c.self.inside.list.list in
    let ys = c.other.inside.list.list in
    let p = c.longer-both.ensures in
    let a : c.number.result ≡ number_in o xs = c.number.ensures ∙ ap (λ (e : Opened). number_in e.manager xs) c.self.invariant.0 in
    let b : c.number-2.result ≡ number_in o ys = c.number-2.ensures ∙ ap (λ (e : Opened). number_in e.manager ys) c.other.invariant.0 in
    let commits = one_history o xs ys c.longer-both.result.list p.this p.that (sym a ∙ eq_same c.number.result c.number-2.result same ∙ b) in
    ap (payloads_from g.O.DurableOpening.table o.start.table)
    (ap (effects_in o) (sym c.self.view_is) ∙ commits ∙ ap (effects_in o) c.other.view_is)

pub returns-clause-found : goal.returns-clause-found
returns-clause-found g c = λ same.
    let o = g.O.Opening.opened.manager in
    let table = g.O.DurableOpening.table in
    let xs = c.self.inside.list.list in
    let ys = c.other.inside.list.list in
    let a : c.number.result ≡ number_in o xs = c.number.ensures ∙ ap (λ (e : Opened). number_in e.manager xs) c.self.invariant.0 in
    let b : c.number-2.result ≡ number_in o ys = c.number-2.ensures ∙ ap (λ (e : Opened). number_in e.manager ys) c.other.invariant.0 in
    let payloads : payloads_in o table xs ≡ payloads_in o table ys =
    ap (payloads_in o table) c.self.view_is ∙ same ∙ ap (payloads_in o table) (sym c.other.view_is) in
    let count = ap (λ (ps : List (List ℕ)). length ps) payloads in
    let m = payloads_count o table xs in
    let n = payloads_count o table ys in
    same_eq c.number.result c.number-2.result (omega (arith, a, b, count, m, n))
