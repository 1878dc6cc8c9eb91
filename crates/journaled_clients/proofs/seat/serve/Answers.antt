use Rattle.journaled_clients.proofs.seat.serve.Goals as goal

pub returns-in-Fold-clause-step : goal.returns-in-Fold-clause-step
returns-in-Fold-clause-step g c = rw c.in-Fold.is (c.fold.ensures.step g.O.Opening.opened.manager c.args.client.now.session)

pub returns-in-Cut-clause-step : goal.returns-in-Cut-clause-step
returns-in-Cut-clause-step g c = rw c.in-Cut.is (c.cut.ensures.step c.args.client.now.session)
