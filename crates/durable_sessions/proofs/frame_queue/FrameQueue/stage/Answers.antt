use Rattle.std.proofs.Common.{ℕ, List, Option, ap, ◌∙◌, subst}
use Rattle.journal.specs.Frame.{frame_bytes}
use Rattle.durable.specs.Spelled.{IsSpelled}
use Rattle.durable_sessions.proofs.StagedLemmas.{frame_is, staged_view}
use Rattle.durable_sessions.proofs.frame_queue.FrameQueue.stage.Goals as goal

pub returns-in_ok-put_frame-in-Some-clause-ok : goal.returns-in_ok-put_frame-in-Some-clause-ok
returns-in_ok-put_frame-in-Some-clause-ok c =
    let m = c.args.manager.now in
    let txn = c.args.txn.now in
    let reply = c.args.prepared.now.reply in
    let seed = c.self.inside.seed in
    let table = c.self.inside.table in
    let number = c.in-Some.number in
    let synced = c.args.synced in
    let bytes : List ℕ = c.spell_prepared.new.payload.items in
    let spelled = subst (λ (o : Option ℕ). IsSpelled m table txn reply o bytes) c.in-Some.is c.in_ok-number.ensures.spelt in
    let frame : List ℕ → List ℕ = λ p. frame_bytes seed (record { number = number; synced = synced; payload = p }) in
    staged_view m txn synced reply c.args.self.now c.self.inside.len c.self.inside.bytes.items c.put_frame.new.bytes.items
    (frame c.as_slice.result.now) seed table c.self.view_is c.self.invariant c.requires.none c.in_ok-put_frame-in-Some.ensures
    (ap frame c.as_slice.ensures.value ∙ frame_is seed table m txn synced reply number bytes spelled)
