use Rattle.pdtcli.proofs.seat.serve.Goals as goal

pub returns-in-Fold : goal.returns-in-Fold
returns-in-Fold g c = rw c.in-Fold.is (c.fold.ensures g.O.Opening.opened.manager c.args.session.now)

pub returns-in-Checkpoint : goal.returns-in-Checkpoint
returns-in-Checkpoint g c = rw c.in-Checkpoint.is (c.checkpoint.ensures g.O.Opening.opened.manager c.args.session.now)

pub returns-in-Cut : goal.returns-in-Cut
returns-in-Cut g c = rw c.in-Cut.is (c.cut.ensures c.args.session.now)
