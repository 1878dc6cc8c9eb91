use Rattle.std.proofs.Common.{◌≡◌, ◌∙◌, ℕ, ◌++◌, List, length, take, drop, ap, map, subst, sym, arith}
use Rattle.std.specs.List.{range_with_len}
use Rattle.std.specs.Io.KnownBytes.{Appends}
use Rattle.std.proofs.lemmas.List.{length-map}
use Rattle.std.proofs.lemmas.List.FromFn.{length-map-range_with_len}
use Rattle.shared.specs.Sessions.{Seat, new_seat}
use Rattle.pdtcli.specs.Output.{exit_status, lines_text}
use Rattle.pdtcli.specs.declared.reply.ReplyLine.{ReplyLine}
use Rattle.journaled_clients.specs.Run.{HaveMadeDurably}
use Rattle.journaled_clients.specs.Transcripts.{AreReported}
use Rattle.journaled_clients.proofs.RunLemmas.{first_sessions, if_ok}
use Rattle.journaled_clients.proofs.run.run_shared.Goals as goal

pub first_reader-reader-requires : goal.first_reader-reader-requires
first_reader-reader-requires g c =
    let given = c.in-Ok.parts.clients.items in
    let begun = c.in-Ok.ensures.clients in
    let lengths = ap (λ (seats : List Seat). length seats) begun ∙ length-map-range_with_len new_seat 0 c.args.clients in
    let lent = ap (λ xs. length xs) c.as_mut_slice.ensures.value in
    record { some = omega (arith, lengths, lent, length-map given (λ client. client.session), c.in-Ok.ensures.limit.0) }

-- each session comes back
pub closed-requires-clause-all : goal.closed-requires-clause-all
closed-requires-clause-all g c =
    let given = c.in-Ok.parts.clients in
    let new = c.first_reader-reader.new.clients in
    let rest = drop (length new) given.items in
    let back = c.in-Ok-Ok.back in
    let before = map (λ client. client.session) (take given.len (new ++ rest)) in
    let kept = c.first_reader-reader.ensures.sessions ∙ ap (λ xs. map (λ client. client.session) xs) c.as_mut_slice.ensures.value in
    let begun =
    first_sessions (λ client. client.session) given.items new rest given.len c.args.clients kept c.in-Ok.ensures.clients
    (omega (arith, given.ok.0)) in
    let made =
    if_ok (λ back. HaveMadeDurably g.O.Opening.opened.manager c.args.script.now.calls before (map (λ client. client.session) back.items))
    c.run_all-ran.result back c.in-Ok-Ok.is-0 c.run_all-ran.ensures in
    let lengths = ap (λ (seats : List Seat). length seats) begun ∙ length-map-range_with_len new_seat 0 c.args.clients in
    omega (arith, made.count, lengths, length-map back.items (λ client. client.session), back.ok.0, c.requires.name.3)

pub returns-in-Ok-Ok-clause-ran : goal.returns-in-Ok-Ok-clause-ran
returns-in-Ok-Ok-clause-ran g c =
    let o = g.O.Opening.opened.manager in
    let calls = c.args.script.now.calls in
    let names = g.O.TranscriptId.names in
    let given = c.in-Ok.parts.clients in
    let new = c.first_reader-reader.new.clients in
    let rest = drop (length new) given.items in
    let back = c.in-Ok-Ok.back in
    let written = c.in-Ok-Ok.written in
    let before = map (λ client. client.session) (take given.len (new ++ rest)) in
    let after = map (λ client. client.session) back.items in
    let kept = c.first_reader-reader.ensures.sessions ∙ ap (λ xs. map (λ client. client.session) xs) c.as_mut_slice.ensures.value in
    let begun =
    first_sessions (λ client. client.session) given.items new rest given.len c.args.clients kept c.in-Ok.ensures.clients
    (omega (arith, given.ok.0)) ∙ ap (λ (n : ℕ). map new_seat (range_with_len 0 n)) c.requires.some in
    let made =
    if_ok (λ back. HaveMadeDurably o calls before (map (λ client. client.session) back.items)) c.run_all-ran.result back c.in-Ok-Ok.is-0
    c.run_all-ran.ensures in
    let wrote =
    if_ok (λ written. (lines : List ReplyLine) × Appends g.O.TranscriptId.before (g.W.Write.contents written.out) (lines_text names lines)
    × AreReported o written.reader lines × (written.status ≡ exit_status lines))
    c.into_written-written.result written c.in-Ok-Ok.is-1 c.into_written-written.ensures in
    let closed = c.closed.ensures in (
      wrote.0,
      record {
        seats = after;
        safe = written.reader;
        made = subst (λ (seats : List Seat). HaveMadeDurably o calls seats after) begun made;
        closed = closed.closed;
        reported = wrote.2;
      },
      subst (λ out. Appends g.O.TranscriptId.before (g.W.Write.contents out) (lines_text names wrote.0)) (sym closed.written.0) wrote.1,
      closed.written.1 ∙ wrote.3,
    )
