use Rattle.std.proofs.Common.{◌≡◌, ◌+◌, ◌≤◌, Some, [], length, arith}
use Rattle.std.proofs.lemmas.Grind.{common_steps}
use Rattle.model.specs.Writes.{effects_after_all}
use Rattle.model.specs.History.{writes_of, due_reply}
use Rattle.oracle.specs.Replay.{GotDueReplies, snapshot_at}
use Rattle.oracle.proofs.ReplayLemmas.{is_due}
use Rattle.oracle.proofs.replay.due_effects.Goals as goal

pub returns : goal.returns
returns c =
    let key_cols = c.args.key_cols in
    let start = c.args.start.now in
    let older = c.args.older.now in
    let commits = c.args.commits.now in
    let entry = c.args.entry.now in
    let t = c.in-Some.snapshot in
    let effects = c.in-Some-2.effects in
    let found : snapshot_at start older commits entry.begin ≡ Some t = grind (arith, common_steps) in
    let done : effects ≡ effects_after_all key_cols start.limit t [] (writes_of entry) = grind (arith, common_steps) in
    let begun : entry.begin ≤ start.base + length commits =
    omega (arith, c.begin-begin.ensures, c.newest_number.ensures.number, c.if-newest_number-begin.false) in
    let got : GotDueReplies key_cols start.limit t [] entry.writes = grind (arith, common_steps) in
    let replied : entry.reply ≡ due_reply start commits entry.begin effects = grind (arith, common_steps) in
    is_due key_cols start older commits entry t found effects done begun got replied
