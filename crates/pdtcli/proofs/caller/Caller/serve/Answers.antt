use Rattle.pdtcli.proofs.caller.Caller.serve.Goals as goal

pub returns-in-Fold-clause-step : goal.returns-in-Fold-clause-step
returns-in-Fold-clause-step g c = rw c.in-Fold.is (c.fold.ensures c.args.self.now)

pub returns-in-Checkpoint-clause-step : goal.returns-in-Checkpoint-clause-step
returns-in-Checkpoint-clause-step g c = rw c.in-Checkpoint.is (c.checkpoint.ensures.kept c.args.self.now)

pub returns-in-Cut-clause-step : goal.returns-in-Cut-clause-step
returns-in-Cut-clause-step g c = rw c.in-Cut.is (c.cut.ensures c.args.self.now)
