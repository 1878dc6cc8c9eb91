use Rattle.pdtcli.proofs.CallerLemmas.{own_decided}
use Rattle.test_scenarios.proofs.managers.decided.Goals as goal

pub returns-in-Ok : goal.returns-in-Ok
returns-in-Ok c = record { kept = own_decided c.args.manager.now c.args.txn c.in-Ok.reply c.commit.new.self c.in-Ok.ensures.ok }
