use Rattle.pdt_c.proofs.SpanLemmas.{first_changed, first_stable}
use Rattle.pdt_c.proofs.calls.stretches.put_first.Goals as goal

pub returns-in-Stable : goal.returns-in-Stable
returns-in-Stable c = first_stable c.args.stretch c.in-Stable.rows c.in-Stable.is c.put_all.new.own c.put_all.ensures

pub returns-in-Row : goal.returns-in-Row
returns-in-Row c = first_changed c.args.stretch c.in-Row.view c.in-Row.is c.put_own.result c.put_own.new.own c.put_own.ensures
