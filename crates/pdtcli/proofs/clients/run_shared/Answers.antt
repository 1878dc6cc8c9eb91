use Rattle.std.proofs.Common.{◌≡◌, ℕ, ◌<◌, ◌∙◌, List, length, map, ap, refl, sym, arith, subst}
use Rattle.std.specs.List.{All, range_with_len}
use Rattle.std.specs.Prelude.{vec_items, vec_len}
use Rattle.std.proofs.lemmas.List.{length-map}
use Rattle.std.proofs.lemmas.List.FromFn.{length-map-range_with_len}
use Rattle.inputs.specs.declared.call.ClientCall.{ClientCall}
use Rattle.manager.specs.Managed.{Managed}
use Rattle.shared.specs.Sessions.{Seat, new_seat}
use Rattle.pdtcli.specs.Clients.{HaveMade, each_with}
use Rattle.pdtcli.specs.Program.{IsRunOnThreads}
use Rattle.pdtcli.proofs.ClientsLemmas.{HaveMade-many, numbered}
use Rattle.pdtcli.proofs.clients.run_shared.Goals as goal

pub returns-in_ok-outcome_of-in-Ok-run_all-clause-run : goal.returns-in_ok-outcome_of-in-Ok-run_all-clause-run
returns-in_ok-outcome_of-in-Ok-run_all-clause-run g c =
    let o = g.O.Opening.opened.manager in
    let script = c.args.script.now in
    let groups = map vec_items c.in-Ok-run_all.groups.items in
    let back = c.in-Ok-run_all.back in
    let seats = back.items in
    let sessions = c.in-Ok.opened.1 in
    let closed = c.close-closed.ensures in
    let many = HaveMade-many o (each_with c.calls.result.now sessions.items) groups seats c.in-Ok-run_all.ensures.made in
    let given = length-map {B = Seat × List ClientCall} sessions.items (λ (seat : Seat). (seat, c.calls.result.now)) in
    let opened = ap (λ (seats : List Seat). length seats) c.in-Ok.ensures.sessions ∙ length-map-range_with_len new_seat 0 c.args.clients in
    let all : vec_len back ≡ g.O.Opening.clients = omega (arith, many, given, opened, back.ok.0, c.requires.name.3) in
    let begun = c.in-Ok.ensures.sessions ∙ ap (λ (n : ℕ). map new_seat (range_with_len 0 n)) c.requires.names.1 in
    subst (λ (m : Managed). IsRunOnThreads m script c.in_ok-outcome_of-in-Ok-run_all.field-0.left) c.requires.opening.2
    (rw c.in_ok-outcome_of-in-Ok-run_all.ensures.left.2 (record {
      clients = c.requires.names.0;
      made = record {
        groups = groups;
        seats = seats;
        made =
            subst (λ (givens : List (Seat × List ClientCall)). HaveMade o givens groups seats)
            (λ j. each_with (c.calls.ensures.calls j) (begun j)) c.in-Ok-run_all.ensures.made;
        lines = refl;
        counts = closed.counts;
        closed = closed.closed;
        lists = closed.lists;
      };
      records = closed.records all;
      lawful = closed.lawful;
    }))

pub run_all-requires-clause-numbered : goal.run_all-requires-clause-numbered
run_all-requires-clause-numbered g c κs within =
    let clients = c.args.clients in
    let sessions =
    subst (λ (seats : List Seat). All (λ (s : Seat). s.client < clients) seats) (sym c.in-Ok.ensures.sessions)
    (numbered clients) in
    subst (λ (n : ℕ). All (λ (s : Seat). s.client < n) c.in-Ok.opened.1.items) (sym c.requires.name.3) sessions
