use Rattle.std.proofs.Common.{rules, ◌≡◌, Err, ap}
use Rattle.durable_sessions.specs.declared.fault.CommitFault.TheVariants as commit_fault
use Rattle.durable_sessions.proofs.durable_shared.DurableShared.commit.Goals as goal

pub returns-in-Err-clause-stranger : goal.returns-in-Err-clause-stranger
returns-in-Err-clause-stranger g c = λ is.
    let same : c.in-Err.fault ≡ commit_fault.Stranger = cc (is) in
    c.in-Err.ensures.stranger (ap Err same)

pub returns-in_default : goal.returns-in_default
returns-in_default g c =
    record {
      replied = search rules;
      durable = search rules;
      told = search rules;
      unsure = search rules;
      ended = search rules;
      counted = λ is. absurd (cc (is));
      err = search rules;
      undecided = search rules;
      stranger = λ is. absurd (cc (is));
      client = search rules;
      later = search rules;
    }
