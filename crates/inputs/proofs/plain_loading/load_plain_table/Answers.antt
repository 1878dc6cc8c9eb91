use Rattle.std.proofs.Common.{[], Bor, List, ℕ, map, subst, sym}
use Rattle.inputs.specs.Reading.{IsReading}
use Rattle.inputs.proofs.ReadLemmas.{then-err, then-ok}
use Rattle.inputs.proofs.plain_loading.load_plain_table.Goals as goal

pub load_found-requires : goal.load_found-requires
load_found-requires c =
    let text = c.args.text.now in
    let start = subst (IsReading text []) (sym c.as_mut.ensures.value) c.in_ok-reader.ensures in
    (text, map (λ (it : Bor (List ℕ)). it.now) c.args.key.now, c.args.sample, start, c.in_ok-found.ensures.ok)

pub returns-clause-ok : goal.returns-clause-ok
returns-clause-ok c =
    let text = c.args.text.now in
    let start = subst (IsReading text []) (sym c.as_mut.ensures.value) c.in_ok-reader.ensures in
    then-ok c.load_found.result _ _
    (λ table is. is text (map (λ (it : Bor (List ℕ)). it.now) c.args.key.now) c.args.sample start c.in_ok-found.ensures.ok)
    c.load_found.ensures.ok

pub returns-clause-err : goal.returns-clause-err
returns-clause-err c =
    let text = c.args.text.now in
    let start = subst (IsReading text []) (sym c.as_mut.ensures.value) c.in_ok-reader.ensures in
    then-err c.load_found.result _ _
    (λ fault is ne. is ne text (map (λ (it : Bor (List ℕ)). it.now) c.args.key.now) c.args.sample start c.in_ok-found.ensures.ok)
    c.load_found.ensures.err
