use Rattle.std.proofs.Common.{Ok, Err, rules}
use Rattle.journaled.proofs.journaled.Journaled.commit_open.Goals as goal
use Rattle.journaled.proofs.journaled.Journaled.commit_open.Goals.{in-Ok, in-Err}

pub returns-clause-step : goal.returns-clause-step
returns-clause-step g c =
    elim c.match-commit.branch [
      | in-Ok w ↦ record {
        managed = c.requires.managed;
        lawful = c.requires.lawful;
        mine = c.requires.own;
        answer = Ok w.in-Ok.reply;
        told = search rules;
        done = search rules;
      }
      | in-Err w ↦ record {
        managed = c.requires.managed;
        lawful = c.requires.lawful;
        mine = c.requires.own;
        answer = Err w.in-Err.fault;
        told = search rules;
        done = search rules;
      }
    ]
