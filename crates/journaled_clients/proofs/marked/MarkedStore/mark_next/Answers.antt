use Rattle.std.proofs.Common.{◌≡◌, ℕ, arith, subst}
use Rattle.images.specs.Images.{with_mark}
use Rattle.journaled_clients.proofs.marked.MarkedStore.mark_next.Goals as goal

-- the mark has the generation of the store's next image
pub returns-in-Ok-mark-clause-ok : goal.returns-in-Ok-mark-clause-ok
returns-in-Ok-mark-clause-ok g c =
    let same : c.in-Ok.generation ≡ c.args.self.now.store.next = omega (arith, c.in-Ok.ensures, c.args.self.now.next_is) in
    subst
    (λ (n : ℕ). c.mark.new.self ≡ with_mark (record { generation = n; number = c.args.number }) c.args.self.now.images)
    same c.in-Ok-mark.ensures.ok
