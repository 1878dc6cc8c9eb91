use Rattle.std.proofs.Common.{◌≡◌, ◌∙◌, Bool, length, map, take, drop, sym, ap, arith}
use Rattle.std.specs.Prelude.{cond}
use Rattle.std.proofs.lemmas.List.{length-take, take-map, take_at}
use Rattle.pdt_c.specs.Reads.{column_from}
use Rattle.pdt_c.specs.Truths.{byte_of, truths_of}
use Rattle.pdt_c.proofs.TruthLemmas.{bytes_of_truths}
use Rattle.pdt_c.proofs.calls.bools.fill_some.Goals as goal

pub returns-in-Some-clause-truths : goal.returns-in-Some-clause-truths
returns-in-Some-clause-truths c =
    let run = c.in-Some.run' in
    let count = run.count in
    let out = c.args.out.now in
    let cells = column_from c.args.txn.now c.args.col c.args.from in
    let lie = c.in-Some.ensures in
    let room : length (take count out) ≡ count = omega (arith, lie.few, length-take count out) in
    let put = c.put_bytes.ensures ∙ ap (λ n. map (λ (truth : Bool). cond truth 1 0) (take n (drop run.first run.truths.now))) room in
    take_at c.put_bytes.new.out (drop count out) count (omega (arith, room, c.put_bytes.auto.out))
    ∙ put
    ∙ sym (bytes_of_truths (take count (drop run.first run.truths.now)))
    ∙ ap truths_of (sym lie.same)
    ∙ sym (take-map byte_of count cells)
