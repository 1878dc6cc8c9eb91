use Rattle.std.proofs.Common.{◌≡◌, ◌<◌, ◌≤◌, ◌∙◌, length, sym, true, arith, rules}
use Rattle.std.specs.Result.{is_ok}
use Rattle.csv.specs.Records.{fields_of}
use Rattle.inputs.proofs.ClientsLemmas.{clients_after-another, clients_after-there}
use Rattle.inputs.proofs.ReadLemmas.{field-drop}
use Rattle.inputs.proofs.ScriptLemmas.{drop-no_field, first-text, clients_after-none}
use Rattle.inputs.proofs.client.add_client.Goals as goal

pub returns-then-client-len-clause-ok : goal.returns-then-client-len-clause-ok
returns-then-client-len-clause-ok c =
    let named = c.requires.named in
    let there : c.args.client < length c.args.clients.now.items = omega (arith, c.if-client-len.true, c.len.ensures) in
    sym (clients_after-there c.args.clients.now.items named.0 (fields_of c.args.fields.now) c.args.client named.1 there)

pub returns-in-None-clause-ok : goal.returns-in-None-clause-ok
returns-in-None-clause-ok c =
    sym (clients_after-none c.args.clients.now.items (fields_of c.args.fields.now)
    (drop-no_field (fields_of c.args.fields.now) 0 (rw c.in-None.is at c.get.ensures.value)))

pub returns-clause-ok : goal.returns-clause-ok
returns-clause-ok c =
    let named = c.requires.named in
    let here = field-drop (fields_of c.args.fields.now) 0 c.in-Some.name.now (rw c.in-Some.is at c.get.ensures.value) in
    let cases = c.in-Ok.ensures.cases in
    let good : is_ok c.push.result ≡ true = search rules in
    let items = rw (good, c.new.ensures, c.in_ok-from_str.ensures.ok, cases.0) at c.push.ensures.items in
    let another : length c.args.clients.now.items ≤ c.args.client = omega (arith, c.if-client-len.false, c.len.ensures) in
    items
    ∙ sym (clients_after-another c.args.clients.now.items named.0 (fields_of c.args.fields.now) _ c.in-Some.name.now c.args.client here
    named.1 another)

pub unreachable-requires : goal.unreachable-requires
unreachable-requires c =
    let here = field-drop (fields_of c.args.fields.now) 0 c.in-Some.name.now (rw c.in-Some.is at c.get.ensures.value) in
    let cases = rw c.in-Err.is at c.from_utf8.ensures.cases in
    first-text (fields_of c.args.fields.now) _ c.in-Some.name.now here c.requires.text cases.0
