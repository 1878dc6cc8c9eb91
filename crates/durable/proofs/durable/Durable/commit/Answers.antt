use Rattle.std.proofs.Common.{refl, subst}
use Rattle.durable.specs.Durable.{Durable, IsLeftOut, over}
use Rattle.durable.proofs.durable.Durable.commit.Goals as goal

pub returns-in-Err-logged-clause-err : goal.returns-in-Err-logged-clause-err
returns-in-Err-logged-clause-err g c = (
  subst
      (λ (o : Durable). IsLeftOut o c.args.txn c.in-Err-logged.fault
      (over c.self.inside.manager c.log_prepared-logged.new.journal c.self.inside.table))
      c.self.view_is
      (record { manager = refl; table = refl; log = c.in-Err-logged.ensures.err; frame = c.in-Err-logged.ensures.unsure; long = c.in-Err-logged.ensures.long }),
  refl,
)
