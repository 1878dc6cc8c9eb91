use Rattle.std.proofs.Common.{◌∙◌, ◌≤◌, ◌++◌, List, length, take, drop, ap, map, subst, arith}
use Rattle.std.specs.Prelude.{All}
use Rattle.std.proofs.lemmas.List.{length-map}
use Rattle.shared.specs.Sessions.{Seat}
use Rattle.journaled_clients.proofs.RunLemmas.{closed_run, counts_of, lent_back}
use Rattle.journaled_clients.proofs.run.closed.Goals as goal

-- the reader with what the lines report goes to the journal with the others
pub returns-clause-closed : goal.returns-clause-closed
returns-clause-closed g c =
    let left = c.close-manager.result in
    let given = c.args.clients.items in
    let new = c.keep_newer.new.clients in
    let rest = drop (length new) given in
    let back = take c.args.clients.len (new ++ rest) in
    let kept = c.keep_newer.ensures.sessions ∙ ap (λ xs. map (λ client. client.session) xs) c.as_mut_slice.ensures.value in
    let lengths = ap (λ (seats : List Seat). length seats) kept in
    let same =
    lent_back c.args.clients.len new rest
    (omega (arith, lengths, length-map new (λ client. client.session), length-map given (λ client. client.session), c.args.clients.ok.0)) in
    closed_run g.O.Opening.opened.manager left.manager g.O.DurableOpening.table g.O.JournalId.front g.O.JournalId.seed
    (map (λ client. client.session) given) (map (λ client. client.session) back) (map (λ client. client.reader) back)
    left.counts.items c.args.written.reader left.journal.device (ap (λ xs. map (λ client. client.session) xs) same ∙ kept)
    c.close-manager.ensures.ended
    (λ limit h. c.keep_newer.ensures.newest limit (subst (λ xs. All (λ n. n ≤ limit) (map (λ client. client.reader) xs)) same h))
    (c.close-manager.ensures.counts ∙ counts_of (λ client. client.session) back) (c.close-manager.ensures.records c.requires.all)
    c.close-manager.ensures.lawful
