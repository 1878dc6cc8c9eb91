use Rattle.std.proofs.Common.{◌≡◌, ◌∙◌, ◌==◌, Bor, List, ℕ, map, sym, ap}
use Rattle.std.proofs.lemmas.List.{length-map}
use Rattle.csv.specs.Records.{fields_of}
use Rattle.inputs.specs.Plain.{as_found}
use Rattle.inputs.specs.declared.fault.PlainFault.TheVariants.{Table}
use Rattle.inputs.proofs.ReadLemmas.{passed-up}
use Rattle.inputs.proofs.PlainLemmas.{columns_found-key}
use Rattle.inputs.proofs.plain.header_columns.Goals as goal

pub returns-in_err-schema-2-clause-err : goal.returns-in_err-schema-2-clause-err
returns-in_err-schema-2-clause-err c =
    let key = c.args.key.now in
    let names = map (λ (it : Bor (List ℕ)). it.now) key in
    let some = ap (λ n. n == 0) (length-map key (λ (it : Bor (List ℕ)). it.now)) ∙ sym c.is_empty.ensures ∙ c.if-is_empty.false in
    let first = rw c.as_slice.ensures.value at c.in_ok-first.ensures.ok in
    let named = rw c.as_slice-2.ensures.value at c.in_ok-headings.ensures.ok in
    let same : c.in_ok-first.first.items ≡ c.in_ok-headings.headings.items = cc (sym first ∙ named) in
    let lawful = rw same at c.in_ok-schema.ensures.ok in
    let moved = rw c.set_first.ensures at c.in_ok-moved.ensures.ok in
    passed-up c.from_residual-in_err-schema-2.result _ _ c.from_residual-in_err-schema-2.ensures.1
    (λ ne.
    columns_found-key names (fields_of c.args.header.now) c.args.types.items _ c.in_ok-schema.schema _ some named lawful moved
    ∙ ap (as_found c.args.types.items c.in_ok-moved.moved.items) (c.in_err-schema-2.ensures.err (λ e. ne (ap Table e))))

pub returns-clause-ok : goal.returns-clause-ok
returns-clause-ok c =
    let key = c.args.key.now in
    let names = map (λ (it : Bor (List ℕ)). it.now) key in
    let some = ap (λ n. n == 0) (length-map key (λ (it : Bor (List ℕ)). it.now)) ∙ sym c.is_empty.ensures ∙ c.if-is_empty.false in
    let first = rw c.as_slice.ensures.value at c.in_ok-first.ensures.ok in
    let named = rw c.as_slice-2.ensures.value at c.in_ok-headings.ensures.ok in
    let same : c.in_ok-first.first.items ≡ c.in_ok-headings.headings.items = cc (sym first ∙ named) in
    let lawful = rw same at c.in_ok-schema.ensures.ok in
    let moved = rw c.set_first.ensures at c.in_ok-moved.ensures.ok in
    columns_found-key names (fields_of c.args.header.now) c.args.types.items _ c.in_ok-schema.schema _ some named lawful moved
    ∙ ap (as_found c.args.types.items c.in_ok-moved.moved.items) c.in_ok-schema-2.ensures.ok
