use Rattle.std.proofs.Common.{◌≡◌, ◌<◌, ◌≤◌, ◌^◌, ◌+◌, length, Some, sym, subst, arith}
use Rattle.model.specs.declared.write.CommitReply.{CommitReply}
use Rattle.manager.specs.Managed.{IsManaged, IsOwn, Managed}
use Rattle.manager.specs.Prepared.{IsPrepared}
use Rattle.shared.specs.Stands.{IsGrown}
use Rattle.durable_sessions.specs.Queues.{IsQueuedFor}
use Rattle.durable.specs.Spelled.{IsReadBack}
use Rattle.durable_sessions.specs.Staged.{staged_of}
use Rattle.durable_sessions.specs.Payloads.{payloads_in}
use Rattle.durable_sessions.proofs.PayloadsLemmas.{payloads_count}
use Rattle.durable_sessions.proofs.QueuedLemmas.{queued_after, queued_unstaged}
use Rattle.durable_sessions.proofs.SessionLemmas.{of_some, some_txn}
use Rattle.durable_sessions.proofs.locked_state.LockedState.commit.Goals.{in-Ok-commit_at, in-Err}
use Rattle.durable_sessions.proofs.locked_state.LockedState.commit.Goals as goal

pub invariant_of-self-2 : goal.invariant_of-self-2
invariant_of-self-2 g c =
    let o = g.O.Opening.opened.manager in
    let base = g.O.JournalId.base in
    let seed = g.O.JournalId.seed in
    let table = g.O.DurableOpening.table in
    let i = c.self.invariant in
    let m = c.self.inside.locked.manager in
    let list = c.self.inside.locked.list in
    let q = c.self.inside.queue in
    let from = c.self.inside.from in
    let t = c.in-Ok-txn.txn.now in
    let is_open : c.args.session.now.txn ≡ Some t = some_txn c.args.session.now.txn t c.in-Ok-txn.ensures.found in
    let p = c.in-Ok.prepared in
    let both = of_some c.args.session.now.txn t (λ txn. IsOwn m txn × IsPrepared m txn p) is_open c.in-Ok.ensures.prepared in
    let managed = subst IsManaged c.manager.ensures.manager c.history-history.ensures.lawful in
    let synced = c.min-synced.result in
    let least = c.min-synced.ensures in
    let small : synced < 2 ^ 64 = (let fits = c.load-seen.type_inv in omega (arith, least, fits)) in
    let known : synced ≤ base + length (payloads_in o table from) =
    (let number = c.number.ensures in let count = payloads_count o table from in let base_is = i.base_is in
    omega (arith, least, number, count, base_is)) in
    let e1 : c.stage.new.self ≡ record q { staged = staged_of q.seed q.table m t synced p.reply } =
    subst (λ (n : Managed). c.stage.new.self ≡ record q { staged = staged_of q.seed q.table n t synced p.reply }) c.manager-2.ensures.manager
    c.in-Ok-stage.ensures.ok in
    let back = subst (λ (n : Managed). IsReadBack n q.table t p.reply) c.manager-2.ensures.manager c.in-Ok-stage.ensures.again in
    elim c.match-commit_at.branch [
      | in-Ok-commit_at w ↦
          let new = c.commit_at.new.state.list in
          let grown = of_some c.args.session.now.txn t _ is_open w.in-Ok-commit_at.ensures.grown in
          let grown2 = subst (λ (r : CommitReply). IsGrown list new t r) w.in-Ok-commit_at.ensures.reply grown in
          subst (λ s. IsQueuedFor o base seed table s.from s.locked.list s.queue) (sym w.self-inside-is)
          (queued_after o base seed table from list q i c.a_batch_grows.ensures m managed c.manager.ensures.listed t
          c.begin-begin.ensures.lawful both.0 synced small known p.reply new c.stage.new.self w.append.new.self both.1.due back grown2 e1 w.append.ensures)
      | in-Err w ↦
          let same = w.in-Err.ensures.same in
          subst (λ s. IsQueuedFor o base seed table s.from s.locked.list s.queue) (sym w.self-inside-is)
          (subst (λ s. IsQueuedFor o base seed table from s.list w.unstage.new.self) (sym same)
          (queued_unstaged o base seed table from list q i c.stage.new.self w.unstage.new.self _ e1 w.unstage.ensures))
    ]
