use Rattle.std.proofs.Common.{ℕ, List, length, ap, ◌∙◌, arith}
use Rattle.group_commit.proofs.GroupLogLemmas.{at_first}
use Rattle.group_commit.proofs.group_log.GroupLog.new.Goals as goal

pub invariant_of-result : goal.invariant_of-result
invariant_of-result g c =
    let r = c.requires in
    let none = r.none in
    let count = ap (λ (p : List (List ℕ)). length p) none in
    let number = r.number in (
      at_first g.J.JournalId.front g.J.JournalId.base g.J.JournalId.seed _ r.device.0 r.device.1 r.device.2 none
          (ap g.T.HistoryPrefix.payloads c.again-tried.ensures ∙ none) r.writer,
      omega (arith, count, number),
    )
