use Rattle.std.proofs.Common.{arith}
use Rattle.pdt_c.proofs.SpanLemmas.{hands_own}
use Rattle.pdt_c.proofs.calls.stretches.read_own.Goals as goal

pub returns-in-Some : goal.returns-in-Some
returns-in-Some c =
    let made = c.placed_stretches in
    let p = c.in-Some.ensures.steps in
    hands_own made.result c.next.new.self c.in-Some.stretch p c.args.txn.now c.args.rid c.put_first.result c.put_first.new.own
    made.ensures.rows
    (omega (arith, made.ensures.from, made.ensures.left, p.some, p.few))
    c.put_first.ensures
