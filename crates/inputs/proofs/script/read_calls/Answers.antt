use Rattle.std.proofs.Common.{◌≡◌, ◌+◌, length, ◌++◌, ◌∷◌, [], true, false, refl, sym, rules, arith}
use Rattle.std.specs.Result.{is_ok}
use Rattle.std.proofs.lemmas.List.{length-append}
use Rattle.csv.specs.Records.{fields_of}
use Rattle.inputs.specs.declared.fault.ScriptFault.TheVariants.{NoMemory}
use Rattle.inputs.proofs.ReadLemmas.{passed-up, prepend-nil}
use Rattle.inputs.proofs.ScriptLemmas.{call_of-text, calls_of-step, clients_of-step, script_of-fault, script_of-ok}
use Rattle.inputs.proofs.ClientsLemmas.{call_of-parts, script_of-below, script_of-few}
use Rattle.inputs.proofs.CallsLemmas.{script_of-typed}
use Rattle.inputs.proofs.script.read_calls.Goals as goal

pub loop-number-init : goal.loop-number-init
loop-number-init c =
    rw (c.new-clients.ensures.items, c.new-calls.ensures.items)
    (record { count = refl; reading = ([], λ text start. start, λ more. refl, λ more. sym (prepend-nil _)) })

pub next_record-requires : goal.next_record-requires
next_record-requires c =
    let at = c.loop-number.invariant.reading in
    (c.requires.0, at.0, at.1 c.requires.0 c.requires.1)

pub returns-then-not-more-clause-ok : goal.returns-then-not-more-clause-ok
returns-then-not-more-clause-ok c text start =
    let inv = c.loop-number.invariant.reading in
    let none : c.in_ok-more.more ≡ false = search rules in
    let whole = rw none at (c.in_ok-more.ensures text inv.0 (inv.1 text start)) in
    record { records = inv.0; are = whole; said = script_of-ok c.args.schema.now inv.0 c.loop-number.number _ _ inv.2 inv.3 }

pub returns-in_err-call-clause-err : goal.returns-in_err-call-clause-err
returns-in_err-call-clause-err c =
    let inv = c.loop-number.invariant.reading in
    let one : c.in_ok-more.more ≡ true = search rules in
    passed-up c.from_residual-in_err-call.result _ _ c.from_residual-in_err-call.ensures.1
    (λ ne text start all g.
    script_of-fault c.args.schema.now inv.0 c.loop-number.number _ _ _ inv.3 text all _ _
    (rw one at (c.in_ok-more.ensures text inv.0 (inv.1 text start))) (rw c.as_slice.ensures.value at (c.in_err-call.ensures.err ne)) g)

pub returns-in_err-add_client-clause-err : goal.returns-in_err-add_client-clause-err
returns-in_err-add_client-clause-err c =
    passed-up c.from_residual-in_err-add_client.result _ _ c.from_residual-in_err-add_client.ensures.1
    (λ ne. absurd (ne c.in_err-add_client.ensures.err))

pub returns-in_err-push-clause-err : goal.returns-in_err-push-clause-err
returns-in_err-push-clause-err c =
    passed-up c.from_residual-in_err-push.result NoMemory _ c.from_residual-in_err-push.ensures.1 (λ ne. absurd (ne refl))

pub loop-number-preserved : goal.loop-number-preserved
loop-number-preserved c =
    let inv = c.loop-number.invariant.reading in
    let one : c.in_ok-more.more ≡ true = search rules in
    let good : is_ok c.push.result ≡ true = search rules in
    let items = rw good at c.push.ensures.items in
    let names = c.in_ok-add_client.ensures.ok in
    let count = c.loop-number.invariant.count in
    let longer : length (c.loop-number.calls.items ++ c.in_ok-call.call ∷ []) ≡ length c.loop-number.calls.items + 1 = simp length-append in
    rw (items, names) (record {
      count = omega (arith, count, longer);
      reading = (
        inv.0 ++ fields_of c.next_record.new.fields ∷ [],
        λ text start. rw one at (c.in_ok-more.ensures text inv.0 (inv.1 text start)),
        clients_of-step inv.0 _ _ inv.2,
        calls_of-step c.args.schema.now inv.0 c.loop-number.number _ _ _ inv.3 _ (rw c.as_slice.ensures.value at c.in_ok-call.ensures.ok),
      );
    })

pub add_client-requires-clause-named : goal.add_client-requires-clause-named
add_client-requires-clause-named c =
    let made = rw c.as_slice.ensures.value at c.in_ok-call.ensures.ok in
    (c.loop-number.number, (call_of-parts c.args.schema.now _ c.loop-number.number _ c.in_ok-call.call made).0)

pub add_client-requires-clause-text : goal.add_client-requires-clause-text
add_client-requires-clause-text c = call_of-text c.args.schema.now _ c.loop-number.number _ _ c.in_ok-call.ensures.ok

pub unreachable-requires : goal.unreachable-requires
unreachable-requires c =
    let count = c.loop-number.invariant.count in
    let full = c.loop-number.calls.ok in
    let small = c.loop-number.calls.small in
    let last = c.loop-number-test.false in
    omega (arith, count, full.0, full.1, small, last)

pub returns-then-not-more-clause-few : goal.returns-then-not-more-clause-few
returns-then-not-more-clause-few c =
    let inv = c.loop-number.invariant.reading in
    script_of-few c.args.schema.now inv.0 _ _ (script_of-ok c.args.schema.now inv.0 c.loop-number.number _ _ inv.2 inv.3)

pub returns-then-not-more-clause-typed : goal.returns-then-not-more-clause-typed
returns-then-not-more-clause-typed c =
    let inv = c.loop-number.invariant.reading in
    let clients = c.loop-number.clients.items in
    let calls = c.loop-number.calls.items in
    let said = script_of-ok c.args.schema.now inv.0 c.loop-number.number clients calls inv.2 inv.3 in
    record {
      numbered = script_of-below c.args.schema.now inv.0 clients calls said;
      typed = script_of-typed c.args.schema.now inv.0 clients calls said;
    }

pub returns-in_err-more-clause-err : goal.returns-in_err-more-clause-err
returns-in_err-more-clause-err c =
    passed-up c.from_residual.result NoMemory _ c.from_residual.ensures.1 (λ ne. absurd (ne refl))
