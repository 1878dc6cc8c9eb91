use Rattle.std.proofs.Common.{◌≡◌, ◌∙◌, ℕ, ap, inl, subst}
use Rattle.images.specs.Images.{with_mark}
use Rattle.manager.specs.Managed.{newest_number}
use Rattle.journaled_clients.proofs.marked.MarkedStore.take_marked.Goals as goal

-- the mark has the number of the newest table
pub returns-in-Ok-clause-stored : goal.returns-in-Ok-clause-stored
returns-in-Ok-clause-stored g c =
    let number : c.number.result ≡ newest_number c.args.manager.now =
    c.number.ensures ∙ ap (λ v. v.number) c.version.ensures.layers in
    subst
    (λ (n : ℕ). c.mark_next.new.self.images ≡ with_mark (record { generation = c.args.self.now.store.next; number = n }) c.args.self.now.images)
    number c.in_ok-mark_next.ensures.ok

pub returns-in-Ok-clause-marked : goal.returns-in-Ok-clause-marked
returns-in-Ok-clause-marked g c =
    let number : c.number.result ≡ newest_number c.args.manager.now =
    c.number.ensures ∙ ap (λ v. v.number) c.version.ensures.layers in
    inl (subst
    (λ (n : ℕ). c.mark_next.new.self.images ≡ with_mark (record { generation = c.args.self.now.store.next; number = n }) c.args.self.now.images)
    number c.in_ok-mark_next.ensures.ok)

pub returns-in-Err-clause-marked : goal.returns-in-Err-clause-marked
returns-in-Err-clause-marked g c =
    let number : c.number.result ≡ newest_number c.args.manager.now =
    c.number.ensures ∙ ap (λ v. v.number) c.version.ensures.layers in
    inl (subst
    (λ (n : ℕ). c.mark_next.new.self.images ≡ with_mark (record { generation = c.args.self.now.store.next; number = n }) c.args.self.now.images)
    number c.in_ok-mark_next.ensures.ok)
