use Rattle.std.proofs.Common.{List, ℕ, sym, ap, ◌∙◌, subst, nat_lt}
use Rattle.logging.specs.Log.{IsGivenUp, Log}
use Rattle.group_commit.specs.GroupLog.{GroupLogState, Holds}
use Rattle.group_commit.specs.Batch.{IsBatch}
use Rattle.group_commit.proofs.GroupLogLemmas.{sound_is, when_written, when_failed}
use Rattle.group_commit.proofs.group_log.GroupLog.write.Goals as goal

pub invariant_of-self : goal.invariant_of-self
invariant_of-self g c =
    let payloads = g.T.HistoryPrefix.payloads in
    let j = g.J.JournalId in
    let sound = sound_is _ (ap (λ (d : GroupLogState). nat_lt 0 d.log.device.failures) c.self.view_is ∙ sym c.has_failed.ensures ∙ c.if-has_failed.false) in
    let from = c.has_same_commits.ensures.same c.if-not-has_same_commits.false in
    let waiting = subst (λ w. IsBatch j.seed j.base w (payloads c.args.to) c.args.bytes.now) from c.requires.batch in
    let i = c.self.invariant in (
      subst (λ (e : Log × List (List ℕ)). Holds j.front j.base j.seed
          (record { log = e.0; written = payloads c.args.to; tried = e.1; watermark = c.self.inside.writer }))
          (λ k. (sym c.in-Ok.ensures.ok k, sym (ap payloads c.again.ensures) k))
          (when_written c.a_journal_goes_on.ensures _ _ _ _ _ _ i.0 sound waiting),
      c.requires.number,
    )

pub invariant_of-self-in-Err-DeviceFailed : goal.invariant_of-self-in-Err-DeviceFailed
invariant_of-self-in-Err-DeviceFailed g c =
    let payloads = g.T.HistoryPrefix.payloads in
    let j = g.J.JournalId in
    let sound = sound_is _ (ap (λ (d : GroupLogState). nat_lt 0 d.log.device.failures) c.self.view_is ∙ sym c.has_failed.ensures ∙ c.if-has_failed.false) in
    let from = c.has_same_commits.ensures.same c.if-not-has_same_commits.false in
    let waiting = subst (λ w. IsBatch j.seed j.base w (payloads c.args.to) c.args.bytes.now) from c.requires.batch in
    let i = c.self.invariant in
    let err = subst (λ f. IsGivenUp c.args.bytes.now c.self.inside.journal f c.log_batch.new.self) c.in-Err-DeviceFailed.field-0-is c.in-Err-DeviceFailed.ensures.err in (
      subst (λ (n : ℕ). Holds j.front j.base j.seed
          (record { log = record { device = c.log_batch.new.self.device; seed = n }; written = payloads c.self.inside.written; tried = payloads c.args.to; watermark = c.self.inside.writer }))
          (sym err.1)
          (when_failed c.a_journal_goes_on.ensures _ _ _ _ _ _ c.log_batch.new.self.device i.0 sound waiting err.0),
      i.1,
    )
