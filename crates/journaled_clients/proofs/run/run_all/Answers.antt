use denote.Param.{param}
use Rattle.std.proofs.Common.{◌≡◌, List, length, map, arith, subst}
use Rattle.std.specs.Prelude.{All, IfOk, IsOk}
use Rattle.std.below.core.proofs.sync.Sent.{Mutex-sync}
use Rattle.inputs.specs.declared.call.ClientCall.{ClientCall}
use Rattle.values.proofs.text.Text.TheSendSync as text
use Rattle.inputs.proofs.call.ClientCall.TheSendSync as asked
use Rattle.journaled_clients.specs.Run.{HaveMadeDurably}
use Rattle.journaled_clients.specs.contracts.transcript.Transcript as Transcript
use Rattle.journaled_clients.proofs.transcript.Transcript.TheSendSync as transcript
use Rattle.journaled_clients.proofs.RunLemmas.{HaveMade-of, gives_back, on_ok}
use denote.Param.Send.{arg_sync, param_sync, recorded_sync, sendable, shr_slice_sync, shr_sync, struct_sync}
use Rattle.std.below.core.proofs.Crossing.{both}
use Rattle.std.proofs.Crossing.{crosses}
use Rattle.std.proofs.alloc.Global.TheSendSync as global
use Rattle.durable_sessions.proofs.Crossing.{durable_session_send, durable_shared_sync}
use Rattle.journaled_clients.proofs.run.run_all.Goals as goal

-- a durable session goes to a thread
pub map_vec-requires-send-J : goal.map_vec-requires-send-J
map_vec-requires-send-J g c κs within =
    let a = durable_session_send (param 0 g.row.O) g.O.Opening g.O.Ledger g.O.WatermarkId in
    search (crosses, sendable) depth 40

-- and comes back
pub map_vec-requires-send-X : goal.map_vec-requires-send-X
map_vec-requires-send-X g c κs within =
    let a = durable_session_send (param 0 g.row.O) g.O.Opening g.O.Ledger g.O.WatermarkId in
    search (crosses, sendable) depth 40

-- what they share, and the transcript, are lent to each thread
pub map_vec-requires-sync-F : goal.map_vec-requires-sync-F
map_vec-requires-sync-F g c κs within =
    let O = param 0 g.row.O in
    let W = param 3 g.row.W in
    let b = durable_shared_sync O g.O.DurableOpening g.O.Opening g.O.Ledger g.O.JournalId g.O.WatermarkId (param 1 g.row.S)
    (param 2 g.row.D) g.S.ImageStore g.D.JournalDevice c.type_bounds.send-S c.type_bounds.send-D in
    let d = global.the_sync in
    let e = Mutex-sync
    (Transcript.the_row O W g.O.TranscriptId g.O.DurableOpening g.O.Opening g.O.Ledger g.O.JournalId g.O.WatermarkId g.W.Write)
    (transcript.the_send O W g.O.TranscriptId g.O.DurableOpening g.O.Opening g.O.Ledger g.O.JournalId g.O.WatermarkId g.W.Write
    c.type_bounds.send-W) in
    let f = asked.the_sync in
    let h = text.the_sync in
    let r = c.type_bounds.sync-R in
    search (both, tt, param_sync, arg_sync, struct_sync, shr_sync, shr_slice_sync, recorded_sync) depth 40

pub returns : goal.returns
returns g c =
    let o = g.O.Opening.opened.manager in
    let calls : List ClientCall = c.calls-calls.result.now in
    let given = c.args.clients in
    let ran = c.in-Ok-map_vec.ran in
    let same : length ran.items ≡ length given.items = omega (arith, c.in-Ok-map_vec.ensures.len, ran.ok.0, given.ok.0) in
    let before = map (λ client. client.session) given.items in
    let seats = map (λ r. r.0.session) ran.items in
    subst (λ (cs : List ClientCall). IfOk c.sessions_of.result (λ back. HaveMadeDurably o cs before (map (λ client. client.session) back.items)))
    c.calls-calls.ensures.calls
    (gives_back (λ back. map (λ client. client.session) back.items) c.sessions_of.result seats before (All (λ r. IsOk r.1) ran.items) o calls
    c.sessions_of.ensures.sessions c.sessions_of.ensures.written
    (λ written. HaveMade-of o calls (λ client. client.session) (λ r. r.0.session) given.items ran.items same
    (λ i d lt.
    let each = c.in-Ok-map_vec.ensures.each i d lt in
    (each.1.job, each.1.job_is, on_ok _ _ each.1.call.met (written i d (omega (arith, lt, same)))))))
