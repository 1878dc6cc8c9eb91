use Rattle.std.proofs.Common.{◌≡◌, ℕ, suc, ◌-◌, List, Option, sym, ◌∙◌, subst}
use Rattle.std.specs.Prelude.{IfErr, IfSome, OnOk}
use Rattle.model.specs.declared.write.CommitReply.{CommitReply}
use Rattle.model.specs.declared.write.CommitReply.TheVariants.{Committed}
use Rattle.journal.specs.Frame.{frame_bytes}
use Rattle.logging.specs.Log.{with_safe}
use Rattle.manager.specs.Managed.{newest_number}
use Rattle.durable.specs.Durable.{IsUnlogged, log_with, over}
use Rattle.durable.specs.Spelled.{IsReadBack, IsSpelled, payload_of}
use Rattle.durable.proofs.SpelledLemmas.{spelled_number}
use Rattle.durable.proofs.logged.log_prepared.Given.{Over}
use Rattle.durable.proofs.logged.log_prepared.Goals.{After-append}
use Rattle.durable.proofs.logged.log_prepared.Goals as goal

module _ (g : Over) (c : After-append g) where
  abbrev n : ℕ
  n = c.in-Some.number

  spelled : (c.args.prepared.now.reply ≡ Committed n)
      × (c.spell_prepared.new.payload.items ≡ payload_of c.args.table c.args.manager.now c.args.txn.now)
      × IsReadBack c.args.manager.now c.args.table c.args.txn.now (Committed n)
  spelled =
      let m = c.args.manager.now in
      let txn = c.args.txn.now in
      let reply = c.args.prepared.now.reply in
      let bytes : List ℕ = c.spell_prepared.new.payload.items in
      spelled_number m c.args.table txn reply n bytes
      (subst (λ (o : Option ℕ). IsSpelled m c.args.table txn reply o bytes) c.in-Some.is c.in_ok-number.ensures.spelt)

  payload_is : c.as_slice.result.now ≡ payload_of c.args.table c.args.manager.now c.args.txn.now
  payload_is = c.as_slice.ensures.value ∙ spelled.1

  number_is : n ≡ suc (newest_number c.args.manager.now)
  number_is =
      subst (λ (o : Option ℕ). IfSome o (λ k. k ≡ suc (newest_number c.args.manager.now))) c.in-Some.is c.in_ok-number.ensures.next

pub returns-clause-ok : goal.returns-clause-ok
returns-clause-ok g c =
    let j = c.args.journal.now in
    let d = over c.args.manager.now j c.args.table in
    subst (λ (r : CommitReply). OnOk c.append.result (c.append.new.journal ≡ log_with d c.args.txn.now r)) (sym (spelled g c).0)
    (subst
    (λ (p : List ℕ). OnOk c.append.result (c.append.new.journal ≡ with_safe
    (frame_bytes j.seed (record { number = n g c; synced = n g c - 1; payload = p })) j))
    (payload_is g c) c.append.ensures.ok)

pub returns-clause-err : goal.returns-clause-err
returns-clause-err g c =
    let j = c.args.journal.now in
    subst
    (λ (e : List ℕ × ℕ). IfErr c.append.result (λ fault. IsUnlogged fault
    (frame_bytes j.seed (record { number = e.1; synced = e.1 - 1; payload = e.0 })) j c.append.new.journal))
    (λ i. (payload_is g c i, number_is g c i)) c.append.ensures.err
