use Rattle.std.proofs.Common.{◌≡◌, ◌∙◌, ◌+◌, Ok, Err, ap, subst, sym}
use Rattle.devices.specs.Appending.{Taken, taken_by}
use Rattle.images.specs.Images.{with_mark}
use Rattle.manager.specs.Managed.{Managed}
use Rattle.journaled.specs.Journaled.{IsOffered, Journaled, mark_of}
use Rattle.journaled.proofs.journaled.Journaled.store_image.Goals as goal

pub returns-in-Ok-clause-imaged : goal.returns-in-Ok-clause-imaged
returns-in-Ok-clause-imaged g c =
    let taken =
    taken_by (λ b. (goal.ColumnDevice-dyn g (b.vtable, b.value)).contents b.value)
    (λ b. (goal.ColumnDevice-dyn g (b.vtable, b.value)).failures b.value) in
    let had : Taken = taken c.args.store.now.devices.items c.args.store.now.next in
    let has : Taken = taken c.checkpoint.new.store.devices.items c.checkpoint.new.store.next in
    let new : Journaled = record { durable = c.checkpoint.new.self; images = c.mark_where_ready.new.images; next = c.from.result + 1 } in
    let schema : c.args.store.now.schema ≡ c.self.inside.durable.manager.schema =
    c.requires.schema ∙ ap (λ (j : Journaled). j.durable.manager.schema) (sym c.self.view_is) in
    subst (λ (old : Journaled). IsOffered old had (Ok c.in-Ok.generation) new has) c.self.view_is
    (record {
      marked = λ may.
          c.in_ok-mark_where_ready.ensures.marked may
          ∙ ap (λ (m : Managed). with_mark (mark_of c.self.inside.next m) c.self.inside.images) c.manager.ensures;
      unmarked = c.in_ok-mark_where_ready.ensures.unmarked;
      offered = c.in-Ok.ensures.answer;
      stored = c.in-Ok.ensures.stored;
      ready = rw (c.in-Ok.ensures.schema, schema) at c.in-Ok.ensures.ready;
      rebuilt = c.in-Ok.ensures.rebuilt;
      durable = c.in-Ok.ensures.kept;
    })

pub returns-in-Err-clause-imaged : goal.returns-in-Err-clause-imaged
returns-in-Err-clause-imaged g c =
    let taken =
    taken_by (λ b. (goal.ColumnDevice-dyn g (b.vtable, b.value)).contents b.value)
    (λ b. (goal.ColumnDevice-dyn g (b.vtable, b.value)).failures b.value) in
    let had : Taken = taken c.args.store.now.devices.items c.args.store.now.next in
    let has : Taken = taken c.checkpoint.new.store.devices.items c.checkpoint.new.store.next in
    let new : Journaled = record { durable = c.checkpoint.new.self; images = c.mark_where_ready.new.images; next = c.self.inside.next } in
    let schema : c.args.store.now.schema ≡ c.self.inside.durable.manager.schema =
    c.requires.schema ∙ ap (λ (j : Journaled). j.durable.manager.schema) (sym c.self.view_is) in
    subst (λ (old : Journaled). IsOffered old had (Err c.in-Err.fault) new has) c.self.view_is
    (record {
      marked = λ may.
          c.in_ok-mark_where_ready.ensures.marked may
          ∙ ap (λ (m : Managed). with_mark (mark_of c.self.inside.next m) c.self.inside.images) c.manager.ensures;
      unmarked = c.in_ok-mark_where_ready.ensures.unmarked;
      offered = c.in-Err.ensures.answer;
      stored = c.in-Err.ensures.stored;
      ready = rw (c.in-Err.ensures.schema, schema) at c.in-Err.ensures.ready;
      rebuilt = c.in-Err.ensures.rebuilt;
      durable = c.in-Err.ensures.kept;
    })
