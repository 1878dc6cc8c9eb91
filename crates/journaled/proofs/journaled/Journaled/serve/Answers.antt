use Rattle.std.proofs.Common.{refl}
use Rattle.journaled.proofs.journaled.Journaled.serve.Goals as goal

pub returns-in-Fold-clause-served : goal.returns-in-Fold-clause-served
returns-in-Fold-clause-served g c =
    rw c.in-Fold.is
    (record { step = c.fold.ensures.step c.args.caller.now; newest = c.fold.ensures.newest; journaled = c.fold.ensures.kept; store = refl })
