use Rattle.test_replay.proofs.OwnLemmas.{own_decided}
use Rattle.test_replay.proofs.journals.commit_part.Goals as goal

pub returns : goal.returns
returns c = record { kept = own_decided c.args.manager.now c.args.txn c.install.result c.install.new.self c.install.ensures.decided }
